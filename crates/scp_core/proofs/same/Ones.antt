-- What is fixed is one.
use Rattle.std.proofs.Common.{◌≡◌, Bool, true, false, List, refl, sym, ap, inl, inr}
use Rattle.std.specs.Prelude.{◌↔◌, ◌⊎◌, Option, Some, None, IsSome, Contains}
use Rattle.std.specs.Option.{ForSome}
use Rattle.std.specs.Cmp.{IsTotalOrder}
use Rattle.std.specs.BTreeSet as tree_set
use Rattle.std.specs.BTreeSet.{BTreeSet}
use Rattle.std.specs.List.Sorted.{IsStrictlySortedBy}
use Rattle.std.proofs.lemmas.Cmp.{on_total, nat_list_cmp_total}
use Rattle.std.proofs.lemmas.Map.Lookups.{CmpEqualImpliesEq, exact_bytes, btree_set_from_contains}
use Rattle.std.proofs.lemmas.Map.Views.{btree_set_contains_iff}
use Rattle.scp_theorem.specs.scp_types.specs.declared.names.NodeId.{NodeId}
use Rattle.scp_theorem.specs.scp_quorum.specs.NodeSet.{node_cmp, is_in}

pub not_both : false ≡ true → ⊥
not_both e = cc

-- two tests that imply each other answer alike
pub bool_one : (a b : Bool) → (a ≡ true → b ≡ true) → (b ≡ true → a ≡ true) → a ≡ b
bool_one true b to from = sym (to refl)
bool_one false true to from = from refl
bool_one false false to from = refl

-- two options that are there alike, and of which each holds the one thing
pub option_one : {X : Type 0} (P Q : Type 0) (R S : X → Type 0) (a b : Option X) → (IsSome a ↔ P) → (IsSome b ↔ Q) → (P → Q) → (Q → P) → ForSome a R → ForSome b S → ((x y : X) → R x → S y → x ≡ y) → a ≡ b
option_one P Q R S None None ha hb to from r s one = refl
option_one P Q R S None (Some y) ha hb to from r s one = absurd (not_both (ha.1 (from (hb.0 refl))))
option_one P Q R S (Some x) None ha hb to from r s one = absurd (not_both (hb.1 (to (ha.0 refl))))
option_one P Q R S (Some x) (Some y) ha hb to from r s one = ap Some (one x y (r x refl) (s y refl))

-- what is there, and nothing else
pub some_one : {X : Type 0} (x y : X) → Some x ≡ Some y → x ≡ y
some_one x y e = cc

pub none_some : {X : Type 0} (x : X) → None ≡ Some x → ⊥
none_some x e = cc

-- a case for each of P and its opposite, twice
pub cases_one : {R : Type 0} (P Q A B C D : Type 0) → ((P × A) ⊎ ((¬ P) × B)) → ((Q × C) ⊎ ((¬ Q) × D)) → (P → Q) → (Q → P) → (P → A → C → R) → ((¬ P) → B → D → R) → R
cases_one P Q A B C D h k to from f g = elim h [
  | inl p ↦ elim k [
    | inl q ↦ f p.0 p.1 q.1
    | inr q ↦ absurd (q.0 (to p.0))
  ]
  | inr p ↦ elim k [
    | inl q ↦ absurd (p.0 (from q.0))
    | inr q ↦ g p.0 p.1 q.1
  ]
]

-- ---- nodes in order

pub node_order : IsTotalOrder node_cmp
node_order = on_total (λ (v : NodeId). v.0) nat_list_cmp_total

pub node_exact : CmpEqualImpliesEq node_cmp
node_exact v w e = λ i. record { 0 = exact_bytes v.0 w.0 e i }

-- ascending nodes are one list where they are the same nodes
pub nodes_one : (a b : List NodeId) → IsStrictlySortedBy node_cmp a → IsStrictlySortedBy node_cmp b → ((v : NodeId) → Contains a v ↔ Contains b v) → a ≡ b
nodes_one a b oa ob same =
    let s : BTreeSet NodeId = record { keys = a } in
    let t : BTreeSet NodeId = record { keys = b } in
    btree_set_from_contains node_order s t oa ob
    (λ q. bool_one (is_in s q) (is_in t q)
    (λ h. (btree_set_contains_iff node_order node_exact t q).1 ((same q).0 ((btree_set_contains_iff node_order node_exact s q).0 h)))
    (λ h. (btree_set_contains_iff node_order node_exact s q).1 ((same q).1 ((btree_set_contains_iff node_order node_exact t q).0 h))))
    node_exact

pub sets_one : (s t : BTreeSet NodeId) → IsStrictlySortedBy node_cmp (tree_set.keys s) → IsStrictlySortedBy node_cmp (tree_set.keys t) → ((v : NodeId) → is_in s v ≡ is_in t v) → s ≡ t
sets_one s t os ot same = λ i. record { keys = btree_set_from_contains node_order s t os ot same node_exact i }
