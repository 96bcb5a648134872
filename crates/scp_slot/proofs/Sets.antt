-- Going over the board, the sets of the nodes that have come to a counter are put together.
use Rattle.std.proofs.Common.{◌≡◌, ◌≤◌, ◌<◌, ◌⊎◌, ◌↔◌, inl, inr, ℕ, Bool, true, false, cond, nat_le, le-leb, leb-true, [], ◌∷◌, Option, Some, None, is_some, IsTrue, IsSomeAnd, IfSome, IfNone, BTreeSet, refl, sym, ◌∙◌, ap, subst, arith}
use Rattle.std.specs.Option.{option_map}
use Rattle.std.specs.Map.{lookup}
use Rattle.std.proofs.lemmas.Bool.{cases_order}
use Rattle.std.specs.BTreeMap.{is_at}
use Rattle.std.proofs.lemmas.Bool.Decides.{nat_tests}
use Rattle.scp_nominate.specs.scp_types.specs.declared.names.NodeId.{NodeId}
use Rattle.scp_nominate.specs.scp_quorum.specs.NodeSet.{node_cmp, is_in}
use Rattle.scp_nominate.specs.scp_quorum.specs.QuorumTree.{QuorumTree}
use Rattle.scp_nominate.specs.scp_quorum.specs.Satisfies.{Satisfies}
use Rattle.scp_nominate.specs.scp_quorum.specs.Quorum.{IsQuorum, IsGreatestQuorum, HasNoQuorum}
use Rattle.scp_nominate.specs.scp_envelope.specs.declared.statement.Pledges.{Pledges}
use Rattle.scp_nominate.specs.scp_vote.specs.declared.statements.Entry.{Entry}
use Rattle.scp_nominate.specs.scp_vote.specs.Board.{Seen, HasQuorumOf, AllHave}
use Rattle.scp_nominate.specs.scp_vote.proofs.Chain.{same_at, at_itself}
use Rattle.scp_ballot.specs.scp_ballot_rules.specs.Owed.{counter_in}
use Rattle.scp_ballot.specs.scp_ballot_rules.proofs.Gathering.{Entries}
use Rattle.scp_slot.specs.Timers.{IsFrom, HasQuorumFrom}
use Rattle.scp_slot.specs.inside.Sets.{set_from, counted_from, AreSetsFrom}

decided : (b : Bool) → (b ≡ true) ⊎ (b ≡ false)
decided true = inl refl
decided false = inr refl

-- the sets so far; these entries are left
pub record IsPuttingSets (b : Seen) (n : ℕ) (sets : NodeId → Option QuorumTree) (rest : Entries) : Type 0 where
  pub sound : (v : NodeId) → (sets v ≡ None) ⊎ (sets v ≡ counted_from b n v)
  pub complete : (v : NodeId) → lookup (is_at (node_cmp v)) rest ≡ None → sets v ≡ counted_from b n v

pub putting_start : (b : Seen) (n : ℕ) (sets : NodeId → Option QuorumTree) (es : Entries) → ((v : NodeId) → sets v ≡ None) → ((v : NodeId) → lookup (is_at (node_cmp v)) es ≡ None → b.statement v ≡ None) → IsPuttingSets b n sets es
putting_start b n sets es empty absent = record {
  sound = λ v. inl (empty v);
  complete = λ v none. empty v ∙ sym (ap (λ (o : Option Pledges). set_from n o (b.counted v)) (absent v none));
}

module _ (b : Seen) (n : ℕ) (v : NodeId) (entry : Entry) (rest : Entries) (sets : NodeId → Option QuorumTree) where
  left_at : (w : NodeId) → is_at (node_cmp w) v ≡ false → lookup (is_at (node_cmp w)) rest ≡ None → lookup (is_at (node_cmp w)) ((v, entry) ∷ rest) ≡ None
  left_at w apart none = ap (λ t. cond t (Some entry) (lookup (is_at (node_cmp w)) rest)) apart ∙ none

  pub passes_by : counted_from b n v ≡ None → IsPuttingSets b n sets ((v, entry) ∷ rest) → IsPuttingSets b n sets rest
  passes_by is g = record {
    sound = g.sound;
    complete = λ w none. elim (decided (is_at (node_cmp w) v)) [
      | inl here ↦
          let at : (sets v ≡ None) ⊎ (sets v ≡ counted_from b n v) = g.sound v in
          let same : sets v ≡ counted_from b n v = elim at [ inl no_set ↦ no_set ∙ sym is | inr set ↦ set ] in
          subst (λ u. sets u ≡ counted_from b n u) (sym (same_at w v here)) same
      | inr apart ↦ g.complete w (left_at w apart none)
    ];
  }

  pub puts_set : (new : NodeId → Option QuorumTree) (set : QuorumTree) → counted_from b n v ≡ Some set → ((w : NodeId) → new w ≡ cond (is_at (node_cmp v) w) (Some set) (sets w)) → IsPuttingSets b n sets ((v, entry) ∷ rest) → IsPuttingSets b n new rest
  puts_set new set is puts g = record {
    sound = λ w. elim (decided (is_at (node_cmp v) w)) [
      | inl here ↦ inr (subst (λ u. new u ≡ counted_from b n u) (same_at v w here) at_v)
      | inr apart ↦
          let was : new w ≡ sets w = puts w ∙ ap (λ t. cond t (Some set) (sets w)) apart in
          elim (g.sound w) [ inl no_set ↦ inl (was ∙ no_set) | inr there ↦ inr (was ∙ there) ]
    ];
    complete = λ w none. elim (decided (is_at (node_cmp w) v)) [
      | inl here ↦ subst (λ u. new u ≡ counted_from b n u) (sym (same_at w v here)) at_v
      | inr apart ↦ elim (decided (is_at (node_cmp v) w)) [
        | inl here ↦ subst (λ u. new u ≡ counted_from b n u) (same_at v w here) at_v
        | inr other ↦ (puts w ∙ ap (λ t. cond t (Some set) (sets w)) other) ∙ g.complete w (left_at w apart none)
      ]
    ];
  }
    where
      at_v : new v ≡ counted_from b n v
      at_v = puts v ∙ ap (λ t. cond t (Some set) (sets v)) (at_itself v) ∙ sym is

pub putting_end : (b : Seen) (n : ℕ) (sets : NodeId → Option QuorumTree) → IsPuttingSets b n sets [] → AreSetsFrom b n sets
putting_end b n sets g v = g.complete v refl

-- the set of a node that has come to the counter, and of one that hasn't
pub set_at : (n : ℕ) (o : Option Pledges) (p : Pledges) (s : Option QuorumTree) → o ≡ Some p → n ≤ counter_in p → set_from n o s ≡ s
set_at n o p s is le = ap (λ (x : Option Pledges). set_from n x s) is ∙ ap (λ t. cond t s None) (le-leb n (counter_in p) le)

pub no_set_at : (n : ℕ) (o : Option Pledges) (p : Pledges) (s : Option QuorumTree) → o ≡ Some p → counter_in p < n → set_from n o s ≡ None
no_set_at n o p s is lt = ap (λ (x : Option Pledges). set_from n x s) is ∙ below
  where
    below : cond (nat_le n (counter_in p)) s None ≡ None
    below = grind (arith, nat_tests)

-- a node with such a set has come to the counter
from_set : (n : ℕ) (o : Option Pledges) (s : Option QuorumTree) (P : QuorumTree → Type 0) → IsSomeAnd (set_from n o s) P → IsSomeAnd o (IsFrom n) × IsSomeAnd s P
from_set n None s P h = absurd h
from_set n (Some p) s P h = elim (decided (nat_le n (counter_in p))) [
  | inl le ↦
      let here : IsSomeAnd s P = subst (λ t. IsSomeAnd (cond t s None) P) le h in
      (leb-true n (counter_in p) le, here)
  | inr lt ↦ absurd (subst (λ t. IsSomeAnd (cond t s None) P) lt h)
]

to_set : (n : ℕ) (o : Option Pledges) (s : Option QuorumTree) (P : QuorumTree → Type 0) → IsSomeAnd o (IsFrom n) → IsSomeAnd s P → IsSomeAnd (set_from n o s) P
to_set n None s P from h = absurd from
to_set n (Some p) s P from h = subst (λ t. IsSomeAnd (cond t s None) P) (sym (le-leb n (counter_in p) from)) h

module _ (b : Seen) (n : ℕ) (sets : NodeId → Option QuorumTree) (are : AreSetsFrom b n sets) where
  -- a quorum over these sets is one whose nodes have come to the counter
  pub from_quorum : (nodes : NodeId → Bool) → IsQuorum sets b.me nodes → HasQuorumFrom b n
  from_quorum nodes q =
      let both : (v : NodeId) → nodes v ≡ true → IsSomeAnd (b.statement v) (IsFrom n) × IsSomeAnd (b.counted v) (Satisfies nodes) =
      λ v h. from_set n (b.statement v) (b.counted v) (Satisfies nodes) (subst (λ (s : Option QuorumTree). IsSomeAnd s (Satisfies nodes)) (are v) (q.satisfied v h)) in
      (nodes, record { has = q.has; satisfied = λ v h. (both v h).1 }, λ v h. (both v h).0)

  pub to_quorum : (nodes : NodeId → Bool) → IsQuorum b.counted b.me nodes → AllHave b (IsFrom n) nodes → IsQuorum sets b.me nodes
  to_quorum nodes q all = record {
    has = q.has;
    satisfied = λ v h. subst (λ (s : Option QuorumTree). IsSomeAnd s (Satisfies nodes)) (sym (are v)) (to_set n (b.statement v) (b.counted v) (Satisfies nodes) (all v h) (q.satisfied v h));
  }

  pub no_quorum : HasNoQuorum sets b.me → HasQuorumFrom b n → ⊥
  no_quorum none h = none h.0 (to_quorum h.0 h.1 h.2)

-- not from here on is below
pub below : (n k : ℕ) → (n ≤ k → ⊥) → k < n
below n k h = elim (cases_order n k) [
  | inl same ↦ absurd (h (omega (arith, same)))
  | inr apart ↦ elim apart [ inl lt ↦ absurd (h (omega (arith, lt))) | inr gt ↦ gt ]
]

-- a map of shared sets after an insert, as sets
pub set_after : {A B : Type 0} (f : A → B) (t : Bool) (a : A) (b : B) (o new : Option A) → f a ≡ b → new ≡ cond t (Some a) o → option_map f new ≡ cond t (Some b) (option_map f o)
set_after f true a b o new same is = ap (option_map f) is ∙ ap (λ x. Some x) same
set_after f false a b o new same is = ap (option_map f) is

-- what a look for the greatest quorum tells
pub by_found : (b : Seen) (n : ℕ) (sets : NodeId → Option QuorumTree) (me : NodeId) (found : Option (BTreeSet NodeId)) (t : Bool) → AreSetsFrom b n sets → b.me ≡ me → t ≡ is_some found
    → IfSome found (λ nodes. IsGreatestQuorum sets me (is_in nodes)) → IfNone found (HasNoQuorum sets me) → IsTrue t ↔ HasQuorumFrom b n
by_found b n sets me None t are same is some none = (
  λ passed. absurd (let k : false ≡ true = sym is ∙ passed in (let no : ⊥ = cc in no)),
  λ h. absurd (no_quorum b n sets are (subst (λ v. HasNoQuorum sets v) (sym same) none) h),
)
by_found b n sets me (Some nodes) t are same is some none = (
  λ passed. from_quorum b n sets are (is_in nodes) (subst (λ v. IsQuorum sets v (is_in nodes)) (sym same) some.quorum),
  λ h. is,
)
