-- Going over nodes, those of which something holds are gathered.
use Rattle.std.proofs.Common.{◌≡◌, ◌↔◌, ◌+◌, ◌<◌, ◌≤◌, cond, Option, Some, None, IsSomeAnd, ◌∙◌, ℕ, ap, take, get_or, length, Bool, true, false, not, List, [], ◌∷◌, ◌++◌, Contains, IsTrue, refl, subst, ◌⊎◌, inl, inr, sym}
use Rattle.std.specs.Prelude.{if◌then◌else◌, is_some}
use Rattle.std.specs.List.Sorted.{IsStrictlySortedBy}
use Rattle.std.proofs.lemmas.List.{take_more, take_all}
use Rattle.std.proofs.lemmas.List.Elements.{Contains-append_left, Contains-push, Contains-push_cases}
use Rattle.scp_kv.specs.scp_types.specs.declared.names.NodeId.{NodeId}
use Rattle.std.specs.BTreeMap.{is_at}
use Rattle.scp_ballot_rules.specs.scp_quorum.specs.NodeSet.{node_cmp}
use Rattle.scp_ballot_rules.specs.scp_quorum.specs.QuorumTree.{QuorumTree}
use Rattle.scp_ballot_rules.specs.scp_quorum.specs.Satisfies.{Satisfies}
use Rattle.scp_ballot_rules.specs.scp_quorum.proofs.Blocking.{Satisfies-within}
use Rattle.scp_ballot_rules.specs.scp_vote.specs.declared.claim.Claim.{Claim}
use Rattle.scp_ballot_rules.specs.scp_vote.specs.declared.claim.Support.{Support}
use Rattle.scp_ballot_rules.specs.scp_vote.specs.Claims.{Stands}
use Rattle.scp_ballot_rules.specs.scp_vote.specs.Board.{Seen, Has}
use Rattle.scp_ballot_rules.specs.scp_vote.proofs.Chain.{same_at, at_itself}
use Rattle.scp_stand_needs.proofs.Ascending.{none_there, sorted_push, sorted_front, below_last}
use Rattle.scp_stand_needs.proofs.Visiting.{decided}
use Rattle.scp_stand_needs.specs.Needs.{AreStanding, AreMembers, AreThese, IsShort}

-- a member that isn't one of them, and one that is
members_passed : (P : NodeId → Type 0) (front nodes : List NodeId) (u : NodeId) → ¬ (P u) → AreMembers P front nodes → AreMembers P (front ++ u ∷ []) nodes
members_passed P front nodes u out before = record {
  these = λ v. (
    (λ h. (Contains-append_left front (u ∷ []) v ((before.these v).0 h).0, ((before.these v).0 h).1)),
    λ h. elim (Contains-push_cases front u v h.0) [
      | inl was ↦ (before.these v).1 (was, h.1)
      | inr same ↦ absurd (out (subst P (sym same) h.1))
    ],
  );
  ascending = λ up. before.ascending (sorted_front node_cmp front u up);
}

members_taken : (P : NodeId → Type 0) (front nodes : List NodeId) (u : NodeId) → P u → AreMembers P front nodes → AreMembers P (front ++ u ∷ []) (nodes ++ u ∷ [])
members_taken P front nodes u p before = record {
  these = λ v. (
    (λ h. elim (Contains-push_cases nodes u v h) [
      | inl was ↦ (Contains-append_left front (u ∷ []) v ((before.these v).0 was).0, ((before.these v).0 was).1)
      | inr same ↦ (subst (λ (w : NodeId). Contains (front ++ u ∷ []) w) same (Contains-push front u), subst P same p)
    ]),
    λ h. elim (Contains-push_cases front u v h.0) [
      | inl was ↦ Contains-append_left nodes (u ∷ []) v ((before.these v).1 (was, h.1))
      | inr same ↦ subst (λ (w : NodeId). Contains (nodes ++ u ∷ []) w) same (Contains-push nodes u)
    ],
  );
  ascending = λ up. sorted_push node_cmp nodes u (before.ascending (sorted_front node_cmp front u up)) (λ v h. below_last node_cmp front u up v ((before.these v).0 h).0);
}

-- one member more
members_more : (P : NodeId → Type 0) (front nodes more : List NodeId) (u : NodeId) (one : Bool) → (IsTrue one ↔ P u) → more ≡ (if one then nodes ++ u ∷ [] else nodes)
    → AreMembers P front nodes → AreMembers P (front ++ u ∷ []) more
members_more P front nodes more u true told is before = subst (λ (ns : List NodeId). AreMembers P (front ++ u ∷ []) ns) (sym is) (members_taken P front nodes u (told.0 refl) before)
members_more P front nodes more u false told is before =
    subst (λ (ns : List NodeId). AreMembers P (front ++ u ∷ []) ns) (sym is) (members_passed P front nodes u (λ p. let wrong : false ≡ true = told.1 p in absurd cc) before)

pub members_at : (P : NodeId → Type 0) (xs nodes more : List NodeId) (i : ℕ) (d u : NodeId) (one : Bool) → i < length xs → get_or xs i d ≡ u → (IsTrue one ↔ P u)
    → more ≡ (if one then nodes ++ u ∷ [] else nodes) → AreMembers P (take i xs) nodes → AreMembers P (take (i + 1) xs) more
members_at P xs nodes more i d u one lt is told adds before =
    subst (λ (front : List NodeId). AreMembers P front more) (sym (take_more xs i d lt ∙ ap (λ (x : NodeId). take i xs ++ x ∷ []) is)) (members_more P (take i xs) nodes more u one told adds before)

pub members_all : (P : NodeId → Type 0) (xs nodes : List NodeId) (i : ℕ) → length xs ≤ i → AreMembers P (take i xs) nodes → AreMembers P xs nodes
members_all P xs nodes i long all = subst (λ (front : List NodeId). AreMembers P front nodes) (take_all i xs long) all

-- no member so far
pub members_none : (P : NodeId → Type 0) → AreMembers P [] []
members_none P = record { these = λ v. ((λ h. absurd (none_there v h)), λ h. h.0); ascending = λ up. up }

-- ---- of those that have a statement, the ones that stand by a claim

has_one : {A : Type 0} (P : A → Type 0) (o : Option A) → IsSomeAnd o P → is_some o ≡ true
has_one P None h = absurd h
has_one P (Some x) h = refl

pub all_standing : (b : Seen) (support : Support) (claim : Claim) (speakers nodes : List NodeId) → ((v : NodeId) → Contains speakers v ↔ (is_some (b.statement v) ≡ true)) → IsStrictlySortedBy node_cmp speakers
    → AreMembers (Has b (Stands support claim)) speakers nodes → AreStanding b support claim nodes
all_standing b support claim speakers nodes speaking up all = record {
  these = λ v. ((λ h. ((all.these v).0 h).1), λ h. (all.these v).1 ((speaking v).1 (has_one (Stands support claim) (b.statement v) h), h));
  ascending = all.ascending up;
}

-- a node was put into a set
pub set_more : (old new : NodeId → Bool) (u : NodeId) → ((w : NodeId) → new w ≡ cond (is_at (node_cmp u) w) true (old w)) → (v : NodeId) → (new v ≡ true) ↔ ((old v ≡ true) ⊎ (u ≡ v))
set_more old new u puts v = (
  (λ h. elim (decided (is_at (node_cmp u) v)) [
    | inl here ↦ inr (same_at u v here)
    | inr apart ↦ inl (sym (puts v ∙ ap (λ (t : Bool). cond t true (old v)) apart) ∙ h)
  ]),
  λ h. elim h [
    | inl was ↦ elim (decided (is_at (node_cmp u) v)) [
      | inl here ↦ puts v ∙ ap (λ (t : Bool). cond t true (old v)) here
      | inr apart ↦ puts v ∙ ap (λ (t : Bool). cond t true (old v)) apart ∙ was
    ]
    | inr same ↦ subst (λ (w : NodeId). new w ≡ true) same (puts u ∙ ap (λ (t : Bool). cond t true (old u)) (at_itself u))
  ],
)

-- one node more in a set of these
pub these_more : (front : List NodeId) (old new : NodeId → Bool) (u : NodeId) → ((v : NodeId) → (new v ≡ true) ↔ ((old v ≡ true) ⊎ (u ≡ v))) → AreThese front old → AreThese (front ++ u ∷ []) new
these_more front old new u adds before = λ v. (
  (λ h. elim ((adds v).0 h) [
    | inl was ↦ Contains-append_left front (u ∷ []) v ((before v).0 was)
    | inr same ↦ subst (λ (w : NodeId). Contains (front ++ u ∷ []) w) same (Contains-push front u)
  ]),
  λ h. elim (Contains-push_cases front u v h) [
    | inl was ↦ (adds v).1 (inl ((before v).1 was))
    | inr same ↦ (adds v).1 (inr same)
  ],
)

pub these_at : (xs : List NodeId) (old new : NodeId → Bool) (i : ℕ) (d u : NodeId) → i < length xs → get_or xs i d ≡ u → ((v : NodeId) → (new v ≡ true) ↔ ((old v ≡ true) ⊎ (u ≡ v)))
    → AreThese (take i xs) old → AreThese (take (i + 1) xs) new
these_at xs old new i d u lt is adds before =
    subst (λ (front : List NodeId). AreThese front new) (sym (take_more xs i d lt ∙ ap (λ (x : NodeId). take i xs ++ x ∷ []) is)) (these_more (take i xs) old new u adds before)

false_isnt_true : false ≡ true → ⊥
false_isnt_true e = absurd cc

-- what isn't counted: it is the second that tells, and neither or the second alone holds
pub neither : {C A : Type 0} (c a : Bool) → (IsTrue c ↔ C) → (IsTrue a ↔ A) → c ≡ false → IsTrue (not a) ↔ ((¬ C) × (¬ A))
neither true a first second out = absurd cc
neither false true first second out = (λ h. absurd (false_isnt_true h), λ h. absurd (h.1 (second.0 refl)))
neither false false first second out = (λ h. ((λ x. let wrong : false ≡ true = first.1 x in absurd cc), (λ x. let wrong : false ≡ true = second.1 x in absurd cc)), λ h. refl)

pub the_second : {C A : Type 0} (c a : Bool) → (IsTrue c ↔ C) → (IsTrue a ↔ A) → c ≡ false → IsTrue a ↔ ((¬ C) × A)
the_second true a first second out = absurd cc
the_second false a first second out = (λ h. ((λ x. let wrong : false ≡ true = first.1 x in absurd cc), second.0 h), λ h. second.1 h.1)

-- what is counted
pub counted : {C A : Type 0} (c : Bool) → (IsTrue c ↔ C) → c ≡ true → IsTrue (not c) ↔ ((¬ C) × A)
counted false first out = absurd cc
counted true first out = (λ h. absurd (false_isnt_true h), λ h. absurd (h.0 (first.0 refl)))

-- the set that counts for a node isn't satisfied by those that are counted, or it is
pub short_told : (b : Seen) (these : List NodeId) (v : NodeId) (nodes : NodeId → Bool) (set : QuorumTree) (yes : Bool) → AreThese these nodes → b.counted v ≡ Some set → (IsTrue yes ↔ Satisfies nodes set)
    → IsTrue (not yes) ↔ IsShort b these v
short_told b these v nodes set true are there told =
    let P : Option QuorumTree → Type 0 = λ o. IsSomeAnd o (λ s. (ns : NodeId → Bool) × AreThese these ns × (¬ (Satisfies ns s))) in (
      (λ h. absurd (false_isnt_true h)),
      λ h. let w : (ns : NodeId → Bool) × AreThese these ns × (¬ (Satisfies ns set)) = subst P there h in
          absurd (w.2 (Satisfies-within nodes w.0 (λ u e. (w.1 u).1 ((are u).0 e)) set (told.0 refl))),
    )
short_told b these v nodes set false are there told =
    let P : Option QuorumTree → Type 0 = λ o. IsSomeAnd o (λ s. (ns : NodeId → Bool) × AreThese these ns × (¬ (Satisfies ns s))) in
    ((λ h. subst P (sym there) (nodes, are, λ s. let wrong : false ≡ true = told.1 s in absurd cc)), λ h. refl)
