-- Lists in which P relates each element to its place.
use Rattle.std.proofs.Common.{◌≡◌, ◌∙◌, ℕ, zero, suc, ap, sym, refl, subst, List, [], ◌∷◌, ◌++◌, length, Some, None}
use Rattle.std.specs.Prelude.{slice_get}
use Rattle.scp_shared_outbox.specs.Places.{Each}

module _ {T : Type 0} where
  pub get_behind : (xs : List T) (y : T) → slice_get (xs ++ y ∷ []) (length xs) ≡ Some y
  get_behind [] y = refl
  get_behind (x ∷ xs) y = get_behind xs y

  pub get_before : (xs : List T) (y x : T) (j : ℕ) → slice_get xs j ≡ Some x → slice_get (xs ++ y ∷ []) j ≡ Some x
  get_before [] y x j h = let k : None ≡ Some x = h in cc
  get_before (z ∷ xs) y x zero h = h
  get_before (z ∷ xs) y x (suc j) h = get_before xs y x j h

  pub each_nil : (P : ℕ → T → Type 0) → Each P []
  each_nil P i x h = let k : None ≡ Some x = h in cc

  -- with one more
  pub each_more : (P : ℕ → T → Type 0) (xs : List T) (y : T) → Each P xs → P (length xs) y → Each P (xs ++ y ∷ [])
  each_more P [] y all last zero x h = let k : Some y ≡ Some x = h in subst (P 0) (cc) last
  each_more P [] y all last (suc i) x h = let k : None ≡ Some x = h in cc
  each_more P (z ∷ xs) y all last zero x h = all 0 x h
  each_more P (z ∷ xs) y all last (suc i) x h = each_more (λ j. P (suc j)) xs y (λ j w e. all (suc j) w e) last i x h

  pub each_push : (P : ℕ → T → Type 0) (xs new : List T) (y : T) → new ≡ xs ++ y ∷ [] → Each P xs → P (length xs) y → Each P new
  each_push P xs new y is all last = subst (Each P) (sym is) (each_more P xs y all last)

  -- without the last
  pub each_front : (P : ℕ → T → Type 0) (xs whole : List T) (y : T) → whole ≡ xs ++ y ∷ [] → Each P whole → Each P xs
  each_front P xs whole y is all i x h = all i x (ap (λ l. slice_get l i) is ∙ get_before xs y x i h)

  pub each_last : (P : ℕ → T → Type 0) (xs whole : List T) (y : T) → whole ≡ xs ++ y ∷ [] → Each P whole → P (length xs) y
  each_last P xs whole y is all = all (length xs) y (ap (λ l. slice_get l (length xs)) is ∙ get_behind xs y)
