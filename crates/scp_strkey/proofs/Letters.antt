-- The letters of numbers and of bytes.
use Rattle.std.proofs.Common.{◌≡◌, ◌+◌, ◌-◌, ◌*◌, ◌/◌, ◌%◌, ◌<◌, ◌≤◌, ℕ, zero, suc, List, [], ◌∷◌, ◌++◌, length, take, drop, get_or, refl, sym, ap, arith}
use Rattle.scp_strkey.specs.Base32.{letter, letters, number_in, letters_of, base32}

-- a number's last letters, with one letter more
pub letters_more : (k n : ℕ) → 0 < k → letters k n ≡ letters (k - 1) (n / 32) ++ letter (n % 32) ∷ []
letters_more zero n some = absurd (omega (arith, some))
letters_more (suc k) n some =
    let e : suc k - 1 ≡ k = omega arith in
    ap (λ (m : ℕ). letters m (n / 32) ++ letter (n % 32) ∷ []) (sym e)

-- the number that five bytes are
pub five_number : (xs : List ℕ) → length xs ≡ 5 → number_in xs ≡ get_or xs 0 0 * 4294967296 + get_or xs 1 0 * 16777216 + get_or xs 2 0 * 65536 + get_or xs 3 0 * 256 + get_or xs 4 0
five_number [] e = absurd (omega (arith, e))
five_number (a ∷ []) e = absurd (omega (arith, e))
five_number (a ∷ b ∷ []) e = absurd (omega (arith, e))
five_number (a ∷ b ∷ c ∷ []) e = absurd (omega (arith, e))
five_number (a ∷ b ∷ c ∷ d ∷ []) e = absurd (omega (arith, e))
five_number (a ∷ b ∷ c ∷ d ∷ f ∷ []) e = omega arith
five_number (a ∷ b ∷ c ∷ d ∷ f ∷ g ∷ rest) e = absurd (omega (arith, e))

-- the first five bytes, and what follows them
pub base32_more : (xs : List ℕ) → 5 ≤ length xs → base32 xs ≡ letters_of (take 5 xs) ++ base32 (drop 5 xs)
base32_more [] long = absurd (omega (arith, long))
base32_more (a ∷ []) long = absurd (omega (arith, long))
base32_more (a ∷ b ∷ []) long = absurd (omega (arith, long))
base32_more (a ∷ b ∷ c ∷ []) long = absurd (omega (arith, long))
base32_more (a ∷ b ∷ c ∷ d ∷ []) long = absurd (omega (arith, long))
base32_more (a ∷ b ∷ c ∷ d ∷ e ∷ rest) long = refl

-- fewer than five have no letter
pub base32_none : (xs : List ℕ) → length xs < 5 → base32 xs ≡ []
base32_none [] few = refl
base32_none (a ∷ []) few = refl
base32_none (a ∷ b ∷ []) few = refl
base32_none (a ∷ b ∷ c ∷ []) few = refl
base32_none (a ∷ b ∷ c ∷ d ∷ []) few = refl
base32_none (a ∷ b ∷ c ∷ d ∷ e ∷ rest) few = absurd (omega (arith, few))
