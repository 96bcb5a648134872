-- Taking lengths off a room, one after the other.
use Rattle.std.proofs.Common.{◌≡◌, ℕ, ◌+◌, ◌<◌, List, [], ◌∷◌, length, get_or, take, refl, arith}
use Rattle.std.specs.Prelude.{map}
use Rattle.std.specs.List.{sum_by}
use Rattle.std.proofs.lemmas.List.Sums.{sum_by-cons, sum_by_more, sum_by-take-le}

pub sum_by-map : {X Y : Type 0} (size : Y → ℕ) (view : X → Y) (xs : List X) → sum_by size (map view xs) ≡ sum_by (λ x. size (view x)) xs
sum_by-map size view [] = refl
sum_by-map size view (x ∷ xs) = omega (arith, sum_by-cons size (view x) (map view xs), sum_by-cons (λ x. size (view x)) x xs, sum_by-map size view xs)

-- where one is longer than what is left, they are together longer than the room
pub past_room : {X : Type 0} (size : X → ℕ) (xs : List X) (i : ℕ) (x : X) (room left : ℕ) → i < length xs → x ≡ get_or xs i x → room ≡ left + sum_by size (take i xs) → left < size x → room < sum_by size xs
past_room size xs i x room left lt is so_far more =
    let one : sum_by size (take (i + 1) xs) ≡ sum_by size (take i xs) + size x = rw is (sum_by_more size xs i x lt) in
    omega (arith, one, sum_by-take-le size xs (i + 1))
