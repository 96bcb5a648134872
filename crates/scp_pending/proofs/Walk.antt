-- A loop that replaces each element by a function of it.
use Rattle.std.proofs.Common.{◌≡◌, ℕ, ◌+◌, ◌<◌, ◌≤◌, List, [], ◌∷◌, ◌++◌, length, refl, ◌∙◌, ap, arith, take, drop, set, get_or, map, zero, suc, add-one}

-- the first i are replaced
abbrev pub walked : {X : Type 0} → (X → X) → ℕ → List X → List X
walked f i xs = map f (take i xs) ++ drop i xs

pub walked-at : {X : Type 0} (f : X → X) (xs : List X) (i : ℕ) (d : X) → i < length xs → get_or (walked f i xs) i d ≡ get_or xs i d
walked-at f [] i d h = absurd (omega arith)
walked-at f (x ∷ xs) zero d h = refl
walked-at f (x ∷ xs) (suc i) d h = walked-at f xs i d (omega arith)

pub walked-step : {X : Type 0} (f : X → X) (xs : List X) (i : ℕ) (y d : X) → i < length xs → y ≡ f (get_or xs i d) → set (walked f i xs) i y ≡ walked f (suc i) xs
walked-step f [] i y d h e = absurd (omega arith)
walked-step f (x ∷ xs) zero y d h e = ap (λ z. z ∷ xs) e
walked-step f (x ∷ xs) (suc i) y d h e = ap (λ zs. f x ∷ zs) (walked-step f xs i y d (omega arith) e)

append_nil : {X : Type 0} (xs : List X) → xs ++ [] ≡ xs
append_nil [] = refl
append_nil (x ∷ xs) = ap (λ ys. x ∷ ys) (append_nil xs)

pub walked-all : {X : Type 0} (f : X → X) (xs : List X) (i : ℕ) → length xs ≤ i → walked f i xs ≡ map f xs
walked-all f [] zero h = refl
walked-all f [] (suc i) h = refl
walked-all f (x ∷ xs) zero h = absurd (omega arith)
walked-all f (x ∷ xs) (suc i) h = ap (λ ys. f x ∷ ys) (walked-all f xs i (omega arith))

pub walked-next : {X : Type 0} (f : X → X) (xs ws : List X) (i : ℕ) (y d : X) → ws ≡ walked f i xs → i < length xs → y ≡ f (get_or ws i d) → set ws i y ≡ walked f (i + 1) xs
walked-next f xs ws i y d w h e = rw (w, add-one) (walked-step f xs i y d h (e ∙ ap (λ zs. f (get_or zs i d)) w ∙ ap f (walked-at f xs i d h)))

-- the element read is x
pub walked-read : {X : Type 0} (f : X → X) (xs ws : List X) (i : ℕ) (x y : X) → ws ≡ walked f i xs → i < length xs → x ≡ get_or ws i x → y ≡ f x → set ws i y ≡ walked f (i + 1) xs
walked-read f xs ws i x y w h r e = walked-next f xs ws i y x w h (e ∙ ap f r)
