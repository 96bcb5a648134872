-- Lists that ascend, with one element more at their end.
use Rattle.std.proofs.Common.{◌≡◌, List, [], ◌∷◌, ◌++◌, Contains, ◌⊎◌, inl, inr, ◌<◌, subst, arith}
use Rattle.std.specs.List.{AllByRecursion}
use Rattle.std.specs.List.Sorted.{IsStrictlySortedBy}
use Rattle.std.specs.declared.cmp.Ordering.{Ordering}
use Rattle.std.specs.declared.cmp.Ordering.TheVariants.{Less}
use Rattle.std.proofs.lemmas.List.Elements.{Contains-append_left, Contains-append_right, Contains-push, Contains-push_cases, Contains-append_cases}

pub none_there : {X : Type 0} (x : X) → Contains [] x → ⊥
none_there x h = let lt : h.0 < 0 = h.1 in omega arith

pub first_or_rest : {X : Type 0} (v : X) (rest : List X) (w : X) → Contains (v ∷ rest) w → (v ≡ w) ⊎ Contains rest w
first_or_rest v rest w h = elim (Contains-append_cases (v ∷ []) rest w h) [
  | inl first ↦ elim (Contains-push_cases [] v w first) [ inl none ↦ absurd (none_there w none) | inr same ↦ inl same ]
  | inr later ↦ inr later
]

module _ {K : Type 0} (cmp : K → K → Ordering) where
  all_push : (P : K → Type 0) (xs : List K) (u : K) → AllByRecursion P xs → P u → AllByRecursion P (xs ++ u ∷ [])
  all_push P [] u all p = (p, tt)
  all_push P (x ∷ xs) u all p = (all.0, all_push P xs u all.1 p)

  all_front : (P : K → Type 0) (xs : List K) (u : K) → AllByRecursion P (xs ++ u ∷ []) → AllByRecursion P xs
  all_front P [] u all = tt
  all_front P (x ∷ xs) u all = (all.0, all_front P xs u all.1)

  all_last : (P : K → Type 0) (xs : List K) (u : K) → AllByRecursion P (xs ++ u ∷ []) → P u
  all_last P [] u all = all.0
  all_last P (x ∷ xs) u all = all_last P xs u all.1

  tail_contains : (x : K) (xs : List K) (other : K) → Contains xs other → Contains (x ∷ xs) other
  tail_contains x xs other h = Contains-append_right (x ∷ []) xs other h

  -- one more that is above all
  pub sorted_push : (xs : List K) (u : K) → IsStrictlySortedBy cmp xs → ((x : K) → Contains xs x → cmp x u ≡ Less) → IsStrictlySortedBy cmp (xs ++ u ∷ [])
  unfolding IsStrictlySortedBy
  sorted_push [] u up below = (tt, tt)
  sorted_push (x ∷ xs) u up below = (
    all_push (λ w. cmp x w ≡ Less) xs u up.0 (below x (Contains-append_left (x ∷ []) xs x (Contains-push [] x))),
    sorted_push xs u up.1 (λ other h. below other (tail_contains x xs other h)),
  )

  -- what stands before the last, and that it is below the last
  pub sorted_front : (xs : List K) (u : K) → IsStrictlySortedBy cmp (xs ++ u ∷ []) → IsStrictlySortedBy cmp xs
  unfolding IsStrictlySortedBy
  sorted_front [] u up = tt
  sorted_front (x ∷ xs) u up = (all_front (λ w. cmp x w ≡ Less) xs u up.0, sorted_front xs u up.1)

  pub below_last : (xs : List K) (u : K) → IsStrictlySortedBy cmp (xs ++ u ∷ []) → (v : K) → Contains xs v → cmp v u ≡ Less
  unfolding IsStrictlySortedBy
  below_last [] u up v h = absurd (none_there v h)
  below_last (x ∷ xs) u up v h = elim (first_or_rest x xs v h) [
    | inl same ↦ subst (λ (w : K). cmp w u ≡ Less) same (all_last (λ w. cmp x w ≡ Less) xs u up.0)
    | inr later ↦ below_last xs u up.1 v later
  ]
