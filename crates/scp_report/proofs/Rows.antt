-- Rows, each with a number.
use Rattle.std.proofs.Common.{◌≡◌, ◌<◌, ◌+◌, ◌∙◌, ℕ, suc, List, [], ◌∷◌, ◌++◌, length, get_or, drop, map, sym, ap, arith, append_assoc, drop-cons}
use Rattle.std.proofs.lemmas.List.{map-append}

-- the element at a place comes next
pub next_of : {X : Type 0} (xs : List X) (i : ℕ) (x : X) → i < length xs → x ≡ get_or xs i x → drop i xs ≡ x ∷ drop (i + 1) xs
next_of {X} xs i x within is =
    let next : suc i ≡ i + 1 = omega arith in
    drop-cons xs i x within ∙ ap (λ (y : X). y ∷ drop (suc i) xs) (sym is) ∙ ap (λ (n : ℕ). x ∷ drop n xs) next

-- with one row more, what is left is one less
pub rows_more : {X Y : Type 0} (F : ℕ → List X → List Y) (f : ℕ → X → Y) → ((number : ℕ) (x : X) (xs : List X) → F number (x ∷ xs) ≡ f number x ∷ F (number + 1) xs) → (number i : ℕ) (xs : List X) (x : X) (so new all : List Y) → i < length xs → x ≡ get_or xs i x → new ≡ so ++ f number x ∷ []
    → so ++ F number (drop i xs) ≡ all → new ++ F (number + 1) (drop (i + 1) xs) ≡ all
rows_more {X} {Y} F f rule number i xs x so new all within is added so_far =
    ap (λ (l : List Y). l ++ F (number + 1) (drop (i + 1) xs)) added
    ∙ append_assoc so (f number x ∷ []) (F (number + 1) (drop (i + 1) xs))
    ∙ ap (λ (l : List Y). so ++ l) (sym (ap (F number) (next_of xs i x within is) ∙ rule number x (drop (i + 1) xs)))
    ∙ so_far

-- one value more is seen as one more
pub seen_more : {X Y : Type 0} (see : X → Y) (xs ys : List X) (x : X) (y : Y) → ys ≡ xs ++ x ∷ [] → see x ≡ y → map see ys ≡ map see xs ++ y ∷ []
seen_more {X} {Y} see xs ys x y is seen = ap (map see) is ∙ map-append see xs (x ∷ []) ∙ ap (λ (z : Y). map see xs ++ z ∷ []) seen
