-- A list that ascends: where one goes, and that it ascends with it.
use Rattle.std.proofs.Common.{◌≡◌, ◌<◌, ◌≤◌, ℕ, zero, suc, List, [], ◌∷◌, length, get_or, refl, sym, ◌∙◌, ap, subst, inl, inr, arith, Result, Ok, Err, IfErr}
use Rattle.std.specs.List.{AllByRecursion, AllWithin, insert}
use Rattle.std.specs.List.Sorted.{IsStrictlySortedBy, IsBinarySearchResult, IsNonDecreasingBy}
use Rattle.std.specs.Ordering.{ordering_index, ordering_reverse}
use Rattle.std.specs.declared.cmp.Ordering.{Ordering}
use Rattle.std.specs.declared.cmp.Ordering.TheVariants.{Less, Equal, Greater}
use Rattle.std.proofs.lemmas.Cmp.{alike_right}
use Rattle.std.proofs.lemmas.Map.Keys.{Less-from_sorted}
use Rattle.std.proofs.lemmas.Bool.{cases_lt}
use Rattle.std.proofs.lemmas.List.Sorted.{IsNonDecreasingBy-from_default}
use Rattle.std.proofs.lemmas.List.Elements.{recursion_from_All}
use Rattle.scp_vote.specs.scp_types.specs.declared.names.NodeId.{NodeId}
use Rattle.scp_vote.specs.scp_quorum.specs.NodeSet.{node_cmp}
use Rattle.scp_nominate.specs.inside.Turns.{IsNodeGap}
use Rattle.scp_nominate.proofs.Turning.{node_cmp_total}

bounded : (o : Ordering) → ordering_index o ≤ 2
bounded Less = omega arith
bounded Equal = omega arith
bounded Greater = omega arith

rises : (a b x : NodeId) → node_cmp a b ≡ Less → ordering_index (node_cmp a x) ≤ ordering_index (node_cmp b x)
rises a b x lt = at (node_cmp b x) refl
  where
    at : (o : Ordering) → node_cmp b x ≡ o → ordering_index (node_cmp a x) ≤ ordering_index o
    at Less e = let f : ordering_index (node_cmp a x) ≡ 0 = ap ordering_index (node_cmp_total.trans a b x lt e) in omega arith
    at Equal e = let f : ordering_index (node_cmp a x) ≡ 0 = ap ordering_index (sym (alike_right node_cmp_total b x a e) ∙ lt) in omega arith
    at Greater e = bounded (node_cmp a x)

comparisons_rise : (xs : List NodeId) (x d : NodeId) → IsStrictlySortedBy node_cmp xs → IsNonDecreasingBy (λ y. ordering_index (node_cmp y x)) xs
comparisons_rise xs x d up = IsNonDecreasingBy-from_default (λ y. ordering_index (node_cmp y x)) xs d at
  where
    at : (i j : ℕ) → i ≤ j → j < length xs → ordering_index (node_cmp (get_or xs i d) x) ≤ ordering_index (node_cmp (get_or xs j d) x)
    at i j le lt = elim (cases_lt i j) [
      | inl below ↦ rises (get_or xs i d) (get_or xs j d) x (Less-from_sorted node_cmp xs i j d up below lt)
      | inr above ↦ let e : i ≡ j = omega arith in let f : ordering_index (node_cmp (get_or xs i d) x) ≡ ordering_index (node_cmp (get_or xs j d) x) = ap (λ k. ordering_index (node_cmp (get_or xs k d) x)) e in omega arith
    ]

pub node_gap : (xs : List NodeId) (x : NodeId) (r : Result ℕ ℕ) → IsStrictlySortedBy node_cmp xs → IsBinarySearchResult (λ y. node_cmp y x) xs r → IfErr r (λ at. IsNodeGap xs x at)
node_gap xs x (Ok i) up parted = tt
node_gap xs x (Err i) up parted = let parts = parted (comparisons_rise xs x x up) in record { below = parts.0; above = parts.1 }

flip : (a b : NodeId) → node_cmp a b ≡ Greater → node_cmp b a ≡ Less
flip a b e = node_cmp_total.antisymm b a ∙ ap ordering_reverse e

all_insert : (P : NodeId → Type 0) (xs : List NodeId) (i : ℕ) (x : NodeId) → AllByRecursion P xs → P x → AllByRecursion P (insert xs i x)
all_insert P xs zero x all p = (p, all)
all_insert P [] (suc i) x all p = (p, tt)
all_insert P (y ∷ ys) (suc i) x all p = (all.0, all_insert P ys i x all.1 p)

sorted_insert : (xs : List NodeId) (i : ℕ) (x : NodeId) → IsStrictlySortedBy node_cmp xs → AllWithin (λ w. node_cmp w x ≡ Less) xs 0 i → AllWithin (λ w. node_cmp w x ≡ Greater) xs i (length xs) → IsStrictlySortedBy node_cmp (insert xs i x)
unfolding IsStrictlySortedBy
sorted_insert xs zero x up below above = (recursion_from_All (λ w. node_cmp x w ≡ Less) xs (λ k d lt. flip (get_or xs k d) x (above k d (omega arith) lt)), up)
sorted_insert [] (suc i) x up below above = (tt, tt)
sorted_insert (y ∷ ys) (suc i) x up below above = (
  all_insert (λ w. node_cmp y w ≡ Less) ys i x up.0 (below 0 y (omega arith) (omega arith)),
  sorted_insert ys i x up.1 (λ k d lo hi. below (suc k) d (omega arith) (omega arith)) (λ k d lo hi. above (suc k) d (omega arith) (omega arith)),
)

pub inserted_ascends : (xs ys : List NodeId) (i : ℕ) (x : NodeId) → IsStrictlySortedBy node_cmp xs → IsNodeGap xs x i → ys ≡ insert xs i x → IsStrictlySortedBy node_cmp ys
inserted_ascends xs ys i x up gap e = subst (λ zs. IsStrictlySortedBy node_cmp zs) (sym e) (sorted_insert xs i x up gap.below gap.above)

pub none_ascend : (xs : List NodeId) → xs ≡ [] → IsStrictlySortedBy node_cmp xs
unfolding IsStrictlySortedBy
none_ascend [] e = tt
none_ascend (x ∷ xs) e = absurd (omega (arith, ap length e))
