-- What stands at a place of a list.
use Rattle.std.proofs.Common.{◌≡◌, ◌≢◌, ◌<◌, ℕ, zero, suc, List, [], ◌∷◌, Some, map, replicate, refl, ap, arith, inl, inr, ◌⊎◌}
use Rattle.std.specs.Prelude.{slice_get, slice_set}

pub set_here : {X : Type 0} (xs : List X) (l : ℕ) (x y : X) → slice_get xs l ≡ Some x → slice_get (slice_set xs l y) l ≡ Some y
set_here [] l x y e = absurd cc
set_here (z ∷ xs) zero x y e = refl
set_here (z ∷ xs) (suc l) x y e = set_here xs l x y e

pub set_there : {X : Type 0} (xs : List X) (l m : ℕ) (y : X) → m ≢ l → slice_get (slice_set xs l y) m ≡ slice_get xs m
set_there [] l m y ne = refl
set_there (x ∷ xs) zero zero y ne = absurd (ne refl)
set_there (x ∷ xs) zero (suc m) y ne = refl
set_there (x ∷ xs) (suc l) zero y ne = refl
set_there (x ∷ xs) (suc l) (suc m) y ne = set_there xs l m y (λ e. ne (ap suc e))

pub set_same : {X : Type 0} (xs : List X) (l : ℕ) (x : X) → slice_get xs l ≡ Some x → slice_set xs l x ≡ xs
set_same [] l x e = refl
set_same (y ∷ ys) zero x e = cc
set_same (y ∷ ys) (suc l) x e = ap (λ zs. y ∷ zs) (set_same ys l x e)

pub get_set : {X : Type 0} (xs : List X) (l : ℕ) (y : X) (m : ℕ) (z : X) → slice_get (slice_set xs l y) m ≡ Some z → ((m ≡ l) × (y ≡ z)) ⊎ ((m ≢ l) × (slice_get xs m ≡ Some z))
get_set [] l y m z e = absurd cc
get_set (x ∷ xs) zero y zero z e = inl (refl, cc)
get_set (x ∷ xs) zero y (suc m) z e = inr (λ s. absurd (omega (arith, s)), e)
get_set (x ∷ xs) (suc l) y zero z e = inr (λ s. absurd (omega (arith, s)), e)
get_set (x ∷ xs) (suc l) y (suc m) z e = elim (get_set xs l y m z e) [ inl h ↦ inl (ap suc h.0, h.1) | inr h ↦ inr (λ s. h.0 (omega (arith, s)), h.1) ]

pub map_at : {A B : Type 0} (f : A → B) (xs : List A) (l : ℕ) (x : A) → slice_get xs l ≡ Some x → slice_get (map f xs) l ≡ Some (f x)
map_at f [] l x e = absurd cc
map_at f (z ∷ xs) zero x e = cc
map_at f (z ∷ xs) (suc l) x e = map_at f xs l x e

pub of_map : {A B : Type 0} (f : A → B) (xs : List A) (l : ℕ) (y : B) → slice_get (map f xs) l ≡ Some y → (x : A) × (slice_get xs l ≡ Some x) × (f x ≡ y)
of_map f [] l y e = absurd cc
of_map f (z ∷ xs) zero y e = (z, refl, cc)
of_map f (z ∷ xs) (suc l) y e = of_map f xs l y e

pub of_all : {X : Type 0} (n l : ℕ) (x : X) → l < n → slice_get (replicate n x) l ≡ Some x
of_all zero l x lt = absurd (omega (arith, lt))
of_all (suc n) zero x lt = refl
of_all (suc n) (suc l) x lt = of_all n l x (omega (arith, lt))
