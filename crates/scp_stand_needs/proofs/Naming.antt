-- Going over the board, the operation lists that its nominations name are gathered.
use Rattle.std.proofs.Common.{◌≡◌, ◌↔◌, ℕ, Bool, true, cond, List, [], ◌∷◌, Option, Some, None, IsSome, IsSomeAnd, refl, sym, ◌∙◌, ap, subst, inl, inr}
use Rattle.std.specs.Map.{lookup}
use Rattle.std.specs.Ordering.{is_eq}
use Rattle.std.specs.declared.cmp.Ordering.{Ordering}
use Rattle.std.specs.declared.cmp.Ordering.TheVariants.{Less, Equal, Greater}
use Rattle.std.specs.BTreeMap.{is_at}
use Rattle.std.specs.BTreeSet.{BTreeSet, contains}
use Rattle.std.proofs.lemmas.Cmp.{nat_list_cmp_total, tied_itself}
use Rattle.std.proofs.lemmas.Map.Lookups.{exact_bytes}
use Rattle.scp_kv.specs.scp_types.specs.declared.names.NodeId.{NodeId}
use Rattle.scp_ballot_rules.specs.scp_quorum.specs.NodeSet.{node_cmp}
use Rattle.scp_ballot_rules.specs.scp_envelope.specs.Ballots.{value_cmp}
use Rattle.scp_ballot_rules.specs.scp_envelope.specs.declared.statement.Pledges.{Pledges}
use Rattle.scp_kv.specs.Op.{ops_in}
use Rattle.scp_ballot_rules.specs.scp_vote.specs.declared.statements.Entry.{Entry}
use Rattle.scp_ballot_rules.specs.scp_vote.specs.declared.claim.Claim.TheVariants.{Nominated}
use Rattle.scp_ballot_rules.specs.scp_vote.specs.declared.claim.Support.TheVariants.{VotesOrAccepts}
use Rattle.scp_ballot_rules.specs.scp_vote.specs.Claims.{Stands}
use Rattle.scp_ballot_rules.specs.scp_vote.specs.Board.{Seen}
use Rattle.scp_ballot_rules.specs.scp_vote.proofs.Chain.{same_at}
use Rattle.scp_stand_needs.specs.Needs.{IsNamed}
use Rattle.scp_stand_needs.specs.inside.Found.{Adds}
use Rattle.scp_stand_needs.proofs.Visiting.{Entries, decided}

is_eq-true : (o : Ordering) → is_eq o ≡ true → o ≡ Equal
is_eq-true Less e = cc
is_eq-true Equal e = refl
is_eq-true Greater e = cc

pub same_value : (v w : List ℕ) → is_at (value_cmp v) w ≡ true → v ≡ w
same_value v w e = exact_bytes v w (is_eq-true (value_cmp v w) e)

pub value_itself : (v : List ℕ) → is_at (value_cmp v) v ≡ true
value_itself v = ap is_eq (tied_itself nat_list_cmp_total v)

abbrev pub Set : Type 0
Set = BTreeSet (List ℕ)

-- a value was put into a set, if it is a list
module _ (L : List ℕ → Type 0) where
  pub adds_one : (old new : Set) (u k : List ℕ) → k ≡ u → L u → ((w : List ℕ) → contains value_cmp new w ≡ cond (is_at (value_cmp k) w) true (contains value_cmp old w)) → Adds (λ v. (u ≡ v) × L v) old new
  adds_one old new u k is listed puts v = (
    (λ h. elim (decided (is_at (value_cmp k) v)) [
      | inl here ↦ let same : u ≡ v = sym is ∙ same_value k v here in inr (same, subst L same listed)
      | inr apart ↦ inl (sym (puts v ∙ ap (λ (t : Bool). cond t true (contains value_cmp old v)) apart) ∙ h)
    ]),
    λ h. elim h [
      | inl was ↦ elim (decided (is_at (value_cmp k) v)) [
        | inl here ↦ puts v ∙ ap (λ (t : Bool). cond t true (contains value_cmp old v)) here
        | inr apart ↦ puts v ∙ ap (λ (t : Bool). cond t true (contains value_cmp old v)) apart ∙ was
      ]
      | inr now ↦ subst (λ (w : List ℕ). contains value_cmp new w ≡ true) (is ∙ now.0) (puts k ∙ ap (λ (t : Bool). cond t true (contains value_cmp old k)) (value_itself k))
    ],
  )

-- a list that the pledges vote for or accept
abbrev pub Named : Pledges → List ℕ → Type 0
Named p v = Stands VotesOrAccepts (Nominated v) p × IsSome (ops_in v)

-- just what the nodes that were visited name is there; these entries are left
pub record IsNaming (b : Seen) (set : Set) (rest : Entries) : Type 0 where
  pub sound : (v : List ℕ) → contains value_cmp set v ≡ true → (node : NodeId) × IsSomeAnd (b.statement node) (λ p. Named p v)
  pub complete : (node : NodeId) (v : List ℕ) → lookup (is_at (node_cmp node)) rest ≡ None → IsSomeAnd (b.statement node) (λ p. Named p v) → contains value_cmp set v ≡ true

module _ (b : Seen) where
  pub naming_more : (old new : Set) (node : NodeId) (entry : Entry) (p : Pledges) (rest : Entries) → b.statement node ≡ Some p → Adds (Named p) old new → IsNaming b old ((node, entry) ∷ rest) → IsNaming b new rest
  naming_more old new node entry p rest is adds g = record {
    sound = λ v h. elim ((adds v).0 h) [
      | inl was ↦ g.sound v was
      | inr now ↦ (node, (let P : Option Pledges → Type 0 = λ o. IsSomeAnd o (λ q. Named q v) in subst P (sym is) now))
    ];
    complete = λ w v none h. elim (decided (is_at (node_cmp w) node)) [
      | inl here ↦
          let P : Option Pledges → Type 0 = λ o. IsSomeAnd o (λ q. Named q v) in
          let there : IsSomeAnd (b.statement node) (λ q. Named q v) = subst (λ u. P (b.statement u)) (same_at w node here) h in
          (adds v).1 (inr (subst P is there))
      | inr apart ↦ (adds v).1 (inl (g.complete w v (ap (λ t. cond t (Some entry) (lookup (is_at (node_cmp w)) rest)) apart ∙ none) h))
    ];
  }

  -- the two halves of what a node names
  halves : (L : Type 0) (v : List ℕ) (o : Option Pledges) → IsSomeAnd o (λ p. Stands VotesOrAccepts (Nominated v) p × L) → IsSomeAnd o (Stands VotesOrAccepts (Nominated v)) × L
  halves L v None h = absurd h
  halves L v (Some p) h = h

  joined : (L : Type 0) (v : List ℕ) (o : Option Pledges) → IsSomeAnd o (Stands VotesOrAccepts (Nominated v)) → L → IsSomeAnd o (λ p. Stands VotesOrAccepts (Nominated v) p × L)
  joined L v None h l = absurd h
  joined L v (Some p) h l = (h, l)

  pub naming_end : (set : Set) → IsNaming b set [] → (v : List ℕ) → (contains value_cmp set v ≡ true) ↔ IsNamed b v
  naming_end set g v = (
    (λ h. let k = g.sound v h in let both = halves (IsSome (ops_in v)) v (b.statement k.0) k.1 in record { list = both.1; node = k.0; stands = both.0 }),
    λ h. g.complete h.node v refl (joined (IsSome (ops_in v)) v (b.statement h.node) h.stands h.list),
  )
