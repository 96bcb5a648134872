-- Numbers and digits as they are written.
use Rattle.std.proofs.Common.{◌≡◌, ℕ, ◌<◌, ◌≤◌, ◌/◌, ◌%◌, ◌^◌, Bool, true, false, ◌&&◌, List, [], ◌∷◌, length, Some, None, Ok, refl, sym, ◌∙◌, ap, subst, arith, None, ◌||◌, zero, suc, get_or}
use Rattle.std.specs.Prelude.{nat_lt, nat_eq, not, slice_index}
use Rattle.std.specs.Str.{IsUtf8, IsAscii}
use Rattle.std.proofs.lemmas.Str.{IsUtf8-from_ascii}
use Rattle.std.specs.Fmt.{decimal}
use Rattle.std.specs.Str.Parse.{digits_value}
use Rattle.std.specs.Cmp.Lexicographic.{bytes_decides}
use Rattle.std.specs.List.{list_all, list_any, AllByRecursion}
use Rattle.std.specs.Result.{result_ok}
use Rattle.std.proofs.lemmas.Bool.Decides.{nat_tests}
use Rattle.std.proofs.lemmas.Fmt.{decimal_is_IsNumeral, IsAscii-decimal}
use Rattle.hex.specs.Hex.{encode_lower, encode_with, lower_digits, decode_of, IsBytes}
use Rattle.std.specs.Int.{IsInRange}
use Rattle.std.proofs.lemmas.Str.Parse.{digit_at}
use Rattle.hex.proofs.HexLemmas.{decode_of-encode_lower}
use Rattle.scp_text.specs.Pieces.{same, is_plain, is_word, number_in, digits_in}
use Rattle.scp_text.proofs.Items.{same_again, and_both}

-- a word that is no number has none
pub no_number : (word : List ℕ) → ((n : ℕ) → n < 2 ^ 64 → word ≡ decimal n → ⊥) → number_in word ≡ None
no_number word none =
    by (nat_lt (digits_value 10 word) (2 ^ 64)) (same (decimal (digits_value 10 word)) word) refl refl
  where
    by : (a b : Bool) → nat_lt (digits_value 10 word) (2 ^ 64) ≡ a → same (decimal (digits_value 10 word)) word ≡ b → number_in word ≡ None
    by true true p q = absurd (none (digits_value 10 word) (grind (arith, nat_tests)) (sym ((bytes_decides (decimal (digits_value 10 word)) word).0 q)))
    by true false p q = rw (p, q) refl
    by false b p q = rw p refl

pub number_again : (n : ℕ) → n < 2 ^ 64 → number_in (decimal n) ≡ Some n
number_again n small =
    let e : digits_value 10 (decimal n) ≡ n = (decimal_is_IsNumeral n small).1 in
    let lt : nat_lt n (2 ^ 64) ≡ true = grind (arith, nat_tests) in
    rw (e, lt, same_again (decimal n)) refl

pub digits_again : (bytes : List ℕ) → IsBytes bytes → digits_in (encode_lower bytes) ≡ Some bytes
unfolding digits_in
digits_again bytes are = ap result_ok (decode_of-encode_lower bytes are)

-- the text of a number is text
pub no_text : (word : List ℕ) → ¬ (IsUtf8 word) → number_in word ≡ None
no_text word none = no_number word (λ n small e. let P : List ℕ → Type 0 = λ w. IsUtf8 w in none (subst P (sym e) (IsUtf8-from_ascii (decimal n) (IsAscii-decimal n small))))

plain_below : (x : ℕ) → is_plain x ≡ true → x < 128
plain_below x h = below (nat_lt 32 x) (nat_lt x 127) (not (nat_eq x 40 || nat_eq x 41 || nat_eq x 44)) refl h
  where
    below : (a b c : Bool) → nat_lt x 127 ≡ b → (a && b && c) ≡ true → x < 128
    below true true c e h = let lt : x < 127 = grind (arith, nat_tests) in omega arith
    below true false c e h = absurd cc
    below false b c e h = absurd cc

ascii_at : (x : ℕ) (xs : List ℕ) → x < 128 → IsAscii xs → (i : ℕ) → get_or (x ∷ xs) i 0 < 128
ascii_at x xs h rest zero = h
ascii_at x xs h rest (suc i) = rest i

pub plain_ascii : (xs : List ℕ) → list_all is_plain xs ≡ true → IsAscii xs
plain_ascii [] h = λ i. omega arith
plain_ascii (x ∷ xs) h =
    let both = and_both (is_plain x) (list_all is_plain xs) h in
    ascii_at x xs (plain_below x both.0) (plain_ascii xs both.1)

-- at least one byte
pub word_some : (xs : List ℕ) → 1 ≤ length xs → list_all is_plain xs ≡ is_word xs
word_some [] h = absurd (omega arith)
word_some (x ∷ xs) h = refl

pub word_utf8 : (xs : List ℕ) → is_word xs ≡ true → IsUtf8 xs
word_utf8 [] h = absurd cc
word_utf8 (x ∷ xs) h = IsUtf8-from_ascii (x ∷ xs) (plain_ascii (x ∷ xs) h)

-- ---- what is plain

digit_plain : (n : ℕ) → n < 16 → is_plain (slice_index lower_digits n) ≡ true
digit_plain zero h = refl
digit_plain (suc zero) h = refl
digit_plain (suc (suc zero)) h = refl
digit_plain (suc (suc (suc zero))) h = refl
digit_plain (suc (suc (suc (suc zero)))) h = refl
digit_plain (suc (suc (suc (suc (suc zero))))) h = refl
digit_plain (suc (suc (suc (suc (suc (suc zero)))))) h = refl
digit_plain (suc (suc (suc (suc (suc (suc (suc zero))))))) h = refl
digit_plain (suc (suc (suc (suc (suc (suc (suc (suc zero)))))))) h = refl
digit_plain (suc (suc (suc (suc (suc (suc (suc (suc (suc zero))))))))) h = refl
digit_plain (suc (suc (suc (suc (suc (suc (suc (suc (suc (suc zero)))))))))) h = refl
digit_plain (suc (suc (suc (suc (suc (suc (suc (suc (suc (suc (suc zero))))))))))) h = refl
digit_plain (suc (suc (suc (suc (suc (suc (suc (suc (suc (suc (suc (suc zero)))))))))))) h = refl
digit_plain (suc (suc (suc (suc (suc (suc (suc (suc (suc (suc (suc (suc (suc zero))))))))))))) h = refl
digit_plain (suc (suc (suc (suc (suc (suc (suc (suc (suc (suc (suc (suc (suc (suc zero)))))))))))))) h = refl
digit_plain (suc (suc (suc (suc (suc (suc (suc (suc (suc (suc (suc (suc (suc (suc (suc zero))))))))))))))) h = refl
digit_plain (suc (suc (suc (suc (suc (suc (suc (suc (suc (suc (suc (suc (suc (suc (suc (suc n)))))))))))))))) h = absurd (omega arith)

pub digits_plain : (bytes : List ℕ) → AllByRecursion (λ b. b < 256) bytes → list_all is_plain (encode_lower bytes) ≡ true
unfolding encode_with
digits_plain [] h = refl
digits_plain (b ∷ bytes) h =
    let small : b < 256 = h.0 in
    let high : is_plain (slice_index lower_digits (b / 16)) ≡ true = digit_plain (b / 16) (omega arith) in
    let low : is_plain (slice_index lower_digits (b % 16)) ≡ true = digit_plain (b % 16) (omega arith) in
    rw (high, low, digits_plain bytes h.1) refl

numeral_plain : (ds : List ℕ) → ((i : ℕ) → i < length ds → IsInRange 48 57 (get_or ds i 0)) → list_all is_plain ds ≡ true
numeral_plain [] h = refl
numeral_plain (d ∷ ds) h =
    let first : IsInRange 48 57 d = h 0 (omega arith) in
    let a : nat_lt 32 d ≡ true = grind (arith, nat_tests, first) in
    let b : nat_lt d 127 ≡ true = grind (arith, nat_tests, first) in
    let x : nat_eq d 40 ≡ false = grind (arith, nat_tests, first) in
    let y : nat_eq d 41 ≡ false = grind (arith, nat_tests, first) in
    let z : nat_eq d 44 ≡ false = grind (arith, nat_tests, first) in
    rw (a, b, x, y, z, numeral_plain ds (λ i lt. h (suc i) (omega (arith, lt)))) refl

pub decimal_plain : (n : ℕ) → n < 2 ^ 64 → list_all is_plain (decimal n) ≡ true
decimal_plain n small = numeral_plain (decimal n) (λ i lt. digit_at (decimal n) i (decimal_is_IsNumeral n small).0.1 lt)

pub decimal_some : (n : ℕ) → n < 2 ^ 64 → 0 < length (decimal n)
decimal_some n small = (decimal_is_IsNumeral n small).0.0

numeral_without : (ds : List ℕ) → ((i : ℕ) → i < length ds → IsInRange 48 57 (get_or ds i 0)) → list_any (λ b. nat_eq b 111) ds ≡ false
numeral_without [] h = refl
numeral_without (d ∷ ds) h =
    let first : IsInRange 48 57 d = h 0 (omega arith) in
    let no : nat_eq d 111 ≡ false = grind (arith, nat_tests, first) in
    rw (no, numeral_without ds (λ i lt. h (suc i) (omega (arith, lt)))) refl

-- no o stands in a number
pub decimal_without : (n : ℕ) → n < 2 ^ 64 → list_any (λ b. nat_eq b 111) (decimal n) ≡ false
decimal_without n small = numeral_without (decimal n) (λ i lt. digit_at (decimal n) i (decimal_is_IsNumeral n small).0.1 lt)
