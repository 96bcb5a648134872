-- Elements of lists, by their places.
use Rattle.std.proofs.Common.{◌≡◌, ◌≢◌, ◌∙◌, ◌⊎◌, inl, inr, ⊎_elim, ℕ, zero, suc, ◌<◌, ◌≤◌, ap, sym, refl, List, [], ◌∷◌, ◌++◌, length, Some, None, arith}
use Rattle.std.specs.Prelude.{slice_get, slice_set}
use Rattle.std.proofs.lemmas.List.{length-append}
use Rattle.scp_shared_outbox.proofs.Each.{get_behind}

module _ {T : Type 0} where
  pub some_is : (x y : T) → Some x ≡ Some y → x ≡ y
  some_is x y e = cc

  -- ---- a list with one more

  -- an element of a list with one more is one of the list, or the last
  pub push_cases : (xs : List T) (y x : T) (i : ℕ) → slice_get (xs ++ y ∷ []) i ≡ Some x → (slice_get xs i ≡ Some x) ⊎ ((i ≡ length xs) × (x ≡ y))
  push_cases [] y x zero h = inr (refl, sym (some_is y x h))
  push_cases [] y x (suc i) h = let k : None ≡ Some x = h in cc
  push_cases (z ∷ xs) y x zero h = inl h
  push_cases (z ∷ xs) y x (suc i) h = ⊎_elim inl (λ e. inr (ap suc e.0, e.1)) (push_cases xs y x i h)

  -- before the last all is as it is
  pub get_left : (xs : List T) (y : T) (i : ℕ) → i < length xs → slice_get (xs ++ y ∷ []) i ≡ slice_get xs i
  get_left [] y i lt = absurd (omega (arith, lt))
  get_left (x ∷ xs) y zero lt = refl
  get_left (x ∷ xs) y (suc i) lt = get_left xs y i (omega (arith, lt))

  pub more_length : (xs whole : List T) (y : T) → whole ≡ xs ++ y ∷ [] → length whole ≡ suc (length xs)
  more_length xs whole y is = omega (arith, ap length is, length-append xs (y ∷ []))

  pub last_same : (xs ys : List T) (x y : T) → xs ++ x ∷ [] ≡ ys ++ y ∷ [] → x ≡ y
  last_same xs ys x y e =
      let many : length xs ≡ length ys = omega (arith, ap length e, length-append xs (x ∷ []), length-append ys (y ∷ [])) in
      some_is x y (sym (get_behind xs x) ∙ ap (λ l. slice_get l (length xs)) e ∙ ap (slice_get (ys ++ y ∷ [])) many ∙ get_behind ys y)

  pub last_is : (xs whole : List T) (x y : T) → whole ≡ xs ++ x ∷ [] → slice_get whole (length xs) ≡ Some y → x ≡ y
  last_is xs whole x y is at = some_is x y (sym (get_behind xs x) ∙ sym (ap (λ l. slice_get l (length xs)) is) ∙ at)

  -- a list that isn't empty has a last element
  pub last_of : (xs : List T) → 1 ≤ length xs → (front : List T) × (x : T) × (xs ≡ front ++ x ∷ [])
  last_of [] one = absurd (omega (arith, one))
  last_of (x ∷ []) one = ([], x, refl)
  last_of (x ∷ y ∷ ys) one = let rest = last_of (y ∷ ys) (omega arith) in (x ∷ rest.0, rest.1, ap (λ l. x ∷ l) rest.2)

  -- ---- what is at a place

  pub there_is : (xs : List T) (i : ℕ) → i < length xs → (x : T) × (slice_get xs i ≡ Some x)
  there_is [] i lt = absurd (omega (arith, lt))
  there_is (x ∷ xs) zero lt = (x, refl)
  there_is (x ∷ xs) (suc i) lt = there_is xs i (omega (arith, lt))

  -- ---- a list of which one element was changed

  pub set_here : (xs : List T) (i : ℕ) (y : T) → i < length xs → slice_get (slice_set xs i y) i ≡ Some y
  set_here [] i y h = absurd (omega (arith, h))
  set_here (z ∷ xs) zero y h = refl
  set_here (z ∷ xs) (suc i) y h = set_here xs i y (omega (arith, h))

  pub set_other : (xs : List T) (i j : ℕ) (y : T) → j ≢ i → slice_get (slice_set xs i y) j ≡ slice_get xs j
  set_other [] i j y h = refl
  set_other (x ∷ xs) zero zero y h = absurd (h refl)
  set_other (x ∷ xs) zero (suc j) y h = refl
  set_other (x ∷ xs) (suc i) zero y h = refl
  set_other (x ∷ xs) (suc i) (suc j) y h = set_other xs i j y (λ e. h (ap suc e))

  pub set_length : (xs : List T) (i : ℕ) (y : T) → length (slice_set xs i y) ≡ length xs
  set_length [] i y = refl
  set_length (x ∷ xs) zero y = refl
  set_length (x ∷ xs) (suc i) y = omega (arith, set_length xs i y)
