-- That each value of a list fits, by index and by recursion.
use Rattle.std.proofs.Common.{ℕ, ◌+◌, ◌≤◌, ◌<◌, ◌^◌, List, [], ◌∷◌, All, length, arith, Bool}
use Rattle.std.specs.Prelude.{map, IsTrue, ◌↔◌}
use Rattle.std.specs.List.{AllByRecursion}
use Rattle.std.proofs.lemmas.List.{length-map}
use Rattle.std.proofs.lemmas.List.Elements.{All-from_recursion, All-head, All-tail}
use Rattle.scp_xdr.specs.Kind.{Kind, array, numbered, Values, Fits}

by_view : {X : Type 0} (k : Kind) (view : X → Values k) (xs : List X) → AllByRecursion (λ v. Fits k v) (map view xs) → AllByRecursion (λ x. Fits k (view x)) xs
by_view k view [] h = tt
by_view k view (x ∷ xs) h = (h.0, by_view k view xs h.1)

pub each_fits : {X : Type 0} (k : Kind) (view : X → Values k) (xs : List X) → AllByRecursion (λ v. Fits k v) (map view xs) → All (λ x. Fits k (view x)) xs
each_fits k view xs h = All-from_recursion (λ x. Fits k (view x)) xs (by_view k view xs h)

pub fits_each : {X : Type 0} (k : Kind) (view : X → Values k) (xs : List X) → All (λ x. Fits k (view x)) xs → AllByRecursion (λ v. Fits k v) (map view xs)
fits_each k view [] h = tt
fits_each k view (x ∷ xs) h = (All-head (λ x. Fits k (view x)) x xs h, fits_each k view xs (All-tail (λ x. Fits k (view x)) x xs h))

pub array_decided : {X : Type 0} (max : ℕ) (k : Kind) (view : X → Values k) (xs : List X) (b : Bool) → length xs ≤ max → max < 2 ^ 32 → IsTrue b ↔ All (λ x. Fits k (view x)) xs → IsTrue b ↔ Fits (array max k) (map view xs)
array_decided max k view xs b le lt h =
    let len = length-map xs view in
    (λ t. (omega (arith, len, le), omega (arith, len, le, lt), fits_each k view xs (h.0 t)), λ f. h.1 (each_fits k view xs f.2))

pub numbered_decided : {X : Type 0} (max first : ℕ) (k : Kind) (view : X → Values k) (xs : List X) (b : Bool) → first < 2 ^ 64 → 0 < length xs → length xs ≤ max → max < 2 ^ 32 → first + length xs ≤ 2 ^ 64 → IsTrue b ↔ All (λ x. Fits k (view x)) xs → IsTrue b ↔ Fits (numbered max k) (first, map view xs)
numbered_decided max first k view xs b small some le lt room h =
    let len = length-map xs view in
    (λ t. (small, omega (arith, len, some), omega (arith, len, le), omega (arith, len, le, lt), omega (arith, len, room), fits_each k view xs (h.0 t)), λ f. h.1 (each_fits k view xs f.5))
