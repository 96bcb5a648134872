-- Nodes, and sets of nodes in which two have changed places.
use Rattle.std.proofs.Common.{◌≡◌, ℕ, ◌+◌, Bool, true, false, not, cond, List, [], ◌∷◌, count_by, refl, sym, ◌∙◌, ap, subst, arith, ◌⊎◌, inl, inr}
use Rattle.std.specs.Ordering.{is_eq}
use Rattle.std.specs.BTreeMap.{is_at}
use Rattle.std.proofs.lemmas.Bool.{cases_Bool}
use Rattle.std.proofs.lemmas.Cmp.{tied_itself, nat_list_cmp_total}
use Rattle.std.proofs.lemmas.List.Sums.{sum_by-cons}
use Rattle.std.proofs.lemmas.Slice.Eq.{bytes_eq-Decides}
use Rattle.scp_quorum.specs.scp_types.specs.declared.names.NodeId.{NodeId}
use Rattle.scp_quorum.specs.NodeSet.{node_cmp}
use Rattle.scp_quorum_search.specs.inside.Search.{is_node, swapped}
use Rattle.scp_quorum_search.specs.inside.Sides.{AreAsOften}

pub node_is : (a v : NodeId) → is_node a v ≡ true → v ≡ a
node_is a v e = ap (λ (bytes : List ℕ). let n : NodeId = record { 0 = bytes } in n) ((bytes_eq-Decides v.0 a.0).0 e)

pub is_itself : (a : NodeId) → is_node a a ≡ true
is_itself a = (bytes_eq-Decides a.0 a.0).1 refl

pub node_off : (a v : NodeId) → not (is_node a v) ≡ true → v ≡ a → ⊥
node_off a v off same =
    let P : NodeId → Type 0 = λ w. is_node a w ≡ true in
    let is : is_node a v ≡ true = subst P (sym same) (is_itself a) in
    absurd (let f : false ≡ true = sym (ap not is) ∙ off in cc)

pub node_not_off : (a v : NodeId) → not (is_node a v) ≡ false → v ≡ a
node_not_off a v e =
    elim (cases_Bool (is_node a v)) [
      | inl is ↦ node_is a v is
      | inr off ↦ absurd (let f : true ≡ false = sym (ap not off) ∙ e in cc)
    ]

pub at_itself : (v : NodeId) → is_at (node_cmp v) v ≡ true
at_itself v = ap is_eq (tied_itself nat_list_cmp_total v.0)

-- ---- counts

cond_add : (b : Bool) (m n : ℕ) → cond b (m + n) 0 ≡ cond b m 0 + cond b n 0
cond_add true m n = refl
cond_add false m n = refl

cond_zero : (b : Bool) → ◌≡◌ {A = ℕ} (cond b 0 0) 0
cond_zero true = refl
cond_zero false = refl

-- one node, before and after the first and the second have changed places
turn : (has_a has_b has first second : Bool) → (first ≡ true → has ≡ has_a) → (second ≡ true → has ≡ has_b)
    → ◌≡◌ {A = ℕ} (cond (cond first has_b (cond second has_a has)) 1 0 + (cond has_a (cond first 1 0) 0 + cond has_b (cond second 1 0) 0)) (cond has 1 0 + (cond has_a (cond second 1 0) 0 + cond has_b (cond first 1 0) 0))
turn has_a has_b has true true is_a is_b = let e : has ≡ has_b = is_b refl in let f : Bool → ℕ = λ t. cond t 1 0 + (cond has_a 1 0 + cond has_b 1 0) in ap f (sym e)
turn has_a has_b has true false is_a is_b =
    let e : ◌≡◌ {A = ℕ} (cond has 1 0) (cond has_a 1 0) = ap (λ t. cond t 1 0) (is_a refl) in
    omega (arith, e, cond_zero has_a, cond_zero has_b)
turn has_a has_b has false true is_a is_b =
    let e : ◌≡◌ {A = ℕ} (cond has 1 0) (cond has_b 1 0) = ap (λ t. cond t 1 0) (is_b refl) in
    omega (arith, e, cond_zero has_a, cond_zero has_b)
turn has_a has_b has false false is_a is_b = refl

-- ---- two nodes that have changed places

module _ (a b : NodeId) (us : NodeId → Bool) where
  pub swapped_first : swapped a b us a ≡ us b
  swapped_first = ap (λ t. cond t (us b) (cond (is_node b a) (us a) (us a))) (is_itself a)

  pub swapped_second : swapped a b us b ≡ us a
  swapped_second =
      elim (cases_Bool (is_node a b)) [
        | inl same ↦ ap (λ t. cond t (us b) (cond (is_node b b) (us a) (us b))) same ∙ ap us (node_is a b same)
        | inr other ↦ ap (λ t. cond t (us b) (cond (is_node b b) (us a) (us b))) other ∙ ap (λ t. cond t (us a) (us b)) (is_itself b)
      ]

  pub swapped_at : (v : NodeId) → ((v ≡ a) × (swapped a b us v ≡ us b)) ⊎ (((v ≡ b) × (swapped a b us v ≡ us a)) ⊎ (swapped a b us v ≡ us v))
  swapped_at v =
      elim (cases_Bool (is_node a v)) [
        | inl first ↦ inl (node_is a v first, ap (λ t. cond t (us b) (cond (is_node b v) (us a) (us v))) first)
        | inr not_so ↦ (
            let past : swapped a b us v ≡ cond (is_node b v) (us a) (us v) = ap (λ t. cond t (us b) (cond (is_node b v) (us a) (us v))) not_so in
            elim (cases_Bool (is_node b v)) [
              | inl second ↦ inr (inl (node_is b v second, past ∙ ap (λ t. cond t (us a) (us v)) second))
              | inr other ↦ inr (inr (past ∙ ap (λ t. cond t (us a) (us v)) other))
            ])
      ]

  -- how many elements of a list have a node among the swapped ones
  pub swap_count : {X : Type 0} (key : X → NodeId) (xs : List X) → count_by (λ x. swapped a b us (key x)) xs + (cond (us a) (count_by (λ x. is_node a (key x)) xs) 0 + cond (us b) (count_by (λ x. is_node b (key x)) xs) 0)
      ≡ count_by (λ x. us (key x)) xs + (cond (us a) (count_by (λ x. is_node b (key x)) xs) 0 + cond (us b) (count_by (λ x. is_node a (key x)) xs) 0)
  swap_count key [] = refl
  swap_count key (v ∷ xs) =
      let rest = swap_count key xs in
      let here = turn (us a) (us b) (us (key v)) (is_node a (key v)) (is_node b (key v)) (λ e. ap us (node_is a (key v) e)) (λ e. ap us (node_is b (key v) e)) in
      let new = sum_by-cons (λ x. cond (swapped a b us (key x)) 1 0) v xs in
      let old = sum_by-cons (λ x. cond (us (key x)) 1 0) v xs in
      let first : count_by (λ x. is_node a (key x)) (v ∷ xs) ≡ cond (is_node a (key v)) 1 0 + count_by (λ x. is_node a (key x)) xs = sum_by-cons (λ x. cond (is_node a (key x)) 1 0) v xs in
      let second : count_by (λ x. is_node b (key x)) (v ∷ xs) ≡ cond (is_node b (key v)) 1 0 + count_by (λ x. is_node b (key x)) xs = sum_by-cons (λ x. cond (is_node b (key x)) 1 0) v xs in
      let a_first = ap (λ n. cond (us a) n 0) first ∙ cond_add (us a) (cond (is_node a (key v)) 1 0) (count_by (λ x. is_node a (key x)) xs) in
      let b_first = ap (λ n. cond (us b) n 0) first ∙ cond_add (us b) (cond (is_node a (key v)) 1 0) (count_by (λ x. is_node a (key x)) xs) in
      let a_second = ap (λ n. cond (us a) n 0) second ∙ cond_add (us a) (cond (is_node b (key v)) 1 0) (count_by (λ x. is_node b (key x)) xs) in
      let b_second = ap (λ n. cond (us b) n 0) second ∙ cond_add (us b) (cond (is_node b (key v)) 1 0) (count_by (λ x. is_node b (key x)) xs) in
      omega (arith, rest, here, new, old, a_first, b_first, a_second, b_second)

  pub swap_keeps : {X : Type 0} (key : X → NodeId) (xs : List X) → count_by (λ x. is_node a (key x)) xs ≡ count_by (λ x. is_node b (key x)) xs → count_by (λ x. swapped a b us (key x)) xs ≡ count_by (λ x. us (key x)) xs
  swap_keeps key xs even =
      let a_same : cond (us a) (count_by (λ x. is_node a (key x)) xs) 0 ≡ cond (us a) (count_by (λ x. is_node b (key x)) xs) 0 = ap (λ n. cond (us a) n 0) even in
      let b_same : cond (us b) (count_by (λ x. is_node a (key x)) xs) 0 ≡ cond (us b) (count_by (λ x. is_node b (key x)) xs) 0 = ap (λ n. cond (us b) n 0) even in
      omega (arith, swap_count key xs, a_same, b_same)

  pub swap_keeps_count : (vs : List NodeId) → AreAsOften a b vs → count_by (swapped a b us) vs ≡ count_by us vs
  swap_keeps_count vs even = swap_keeps (λ (v : NodeId). v) vs even
