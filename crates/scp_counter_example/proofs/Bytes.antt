-- The bytes of a count.
use Rattle.std.proofs.Common.{inl, inr, ◌≡◌, ◌≢◌, ℕ, ◌<◌, ◌≤◌, ◌^◌, Bool, true, false, List, [], Option, Some, None, refl, sym, ap, ◌∙◌, length, take, get_or, nat_eq, eq-eqb, arith}
use Rattle.std.specs.Prelude.{◌∷◌, if◌then◌else◌, unwrap_or}
use Rattle.std.specs.Int.{from_be_bytes, to_be_bytes, w64}
use Rattle.std.proofs.lemmas.Bool.{eqb-true}
use Rattle.std.proofs.lemmas.List.{take_all}
use Rattle.std.proofs.lemmas.Nat.{be_bytes_8, from_be_bytes-to_be_bytes_8}
use Rattle.scp_turn.specs.scp_driver.specs.Driver.{IsBase}
use Rattle.scp_counter_example.specs.inside.Counter.{number_in, bytes_of, count_in}
use Rattle.scp_counter_example.specs.inside.CounterLaws.{none_say_zero}

abbrev number_if : Bool → List ℕ → Option ℕ
number_if b bytes = if b then Some (from_be_bytes w64 (take 8 bytes)) else None

some_is : (a b : ℕ) → Some a ≡ Some b → a ≡ b
some_is a b e = cc

none_some : (n : ℕ) → None ≡ Some n → ⊥
none_some n e = cc

by_test : (bytes : List ℕ) (n : ℕ) (b : Bool) → ((i : ℕ) → get_or bytes i 0 < 256) → nat_eq (length bytes) 8 ≡ b → number_if b bytes ≡ Some n → bytes ≡ bytes_of n
by_test bytes n true are long e =
    let eight : length bytes ≡ 8 = eqb-true (length bytes) 8 long in
    let all : take 8 bytes ≡ bytes = take_all 8 bytes (omega (arith, eight)) in
    sym (be_bytes_8 bytes n eight are (sym (some_is (from_be_bytes w64 (take 8 bytes)) n e) ∙ ap (λ (bs : List ℕ). from_be_bytes w64 bs) all))
by_test bytes n false are long e = absurd cc

-- what says a number are its bytes
pub own_bytes : (bytes : List ℕ) (n : ℕ) → ((i : ℕ) → get_or bytes i 0 < 256) → number_in bytes ≡ Some n → bytes ≡ bytes_of n
unfolding number_in
own_bytes bytes n are e = by_test bytes n (nat_eq (length bytes) 8) are refl e

eight_say : (bytes : List ℕ) → length bytes ≡ 8 → number_in bytes ≡ Some (from_be_bytes w64 (take 8 bytes))
unfolding number_in
eight_say bytes e = let t : nat_eq (length bytes) 8 ≡ true = eq-eqb _ _ e in rw t refl

-- what says no number are the bytes of none
pub not_own : (bytes : List ℕ) → number_in bytes ≡ None → bytes ≢ bytes_of (count_in bytes)
not_own bytes none is = none_some (from_be_bytes w64 (take 8 bytes)) (sym none ∙ eight_say bytes (ap length is))

-- the bytes of a count say it
pub back : (n : ℕ) → n < 2 ^ 64 → count_in (bytes_of n) ≡ n
back n lt =
    ap (λ (o : Option ℕ). unwrap_or o 0) (eight_say (bytes_of n) refl)
    ∙ ap (λ (bs : List ℕ). from_be_bytes w64 bs) (take_all 8 (bytes_of n) (omega arith))
    ∙ from_be_bytes-to_be_bytes_8 n lt

from_length : (bytes : List ℕ) → length bytes ≡ 0 → 0 ≡ count_in bytes
from_length [] e = sym none_say_zero
from_length (b ∷ bs) e = absurd (omega (arith, e))

-- no bytes say the first count
pub say_nothing : (bytes : List ℕ) → true ≡ nat_eq (length bytes) 0 → 0 ≡ count_in bytes
say_nothing bytes e = from_length bytes (eqb-true (length bytes) 0 (sym e))

true_false : true ≡ false → ⊥
true_false e = cc

nil_some : (bytes : List ℕ) → false ≡ nat_eq (length bytes) 0 → bytes ≡ [] → ⊥
nil_some [] e nil = true_false (sym e)
nil_some (b ∷ bs) e nil = absurd cc

-- bytes that say a number are those of a count
pub number_is_base : (bytes : List ℕ) (n : ℕ) → ((i : ℕ) → get_or bytes i 0 < 256) → number_in bytes ≡ Some n → IsBase count_in bytes_of bytes
number_is_base bytes n are e = inr (own_bytes bytes n are e ∙ ap bytes_of (sym (ap (λ (o : Option ℕ). unwrap_or o 0) e)))

-- bytes that say no number are those of none
pub none_is_base : (bytes : List ℕ) → false ≡ nat_eq (length bytes) 0 → number_in bytes ≡ None → IsBase count_in bytes_of bytes → ⊥
none_is_base bytes some none (inl nil) = nil_some bytes some nil
none_is_base bytes some none (inr own) = not_own bytes none own
