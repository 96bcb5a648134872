-- Texts without a line feed, and lines of another word than `send`.
use Rattle.std.proofs.Common.{◌≡◌, ◌==◌, ◌/◌, ◌%◌, ◌+◌, ℕ, zero, suc, Bool, true, false, cond, List, [], ◌∷◌, ◌++◌, None, codes, refl, ◌∙◌, ap, append_assoc, flat_map, arith}
use Rattle.std.specs.Prelude.{◌&&◌, All, not, nat_lt, option_map, option_to_list, if◌then◌else◌}
use Rattle.std.specs.List.{list_all, slice_split}
use Rattle.std.specs.Fmt.{decimal, digits, digits_onto, digit_glyph}
use Rattle.std.proofs.lemmas.Bool.Decides.{nat_tests}
use Rattle.std.proofs.lemmas.List.Elements.{All-nil, All-cons, All-head, All-tail}
use Rattle.std.proofs.lemmas.List.Splits.{slice_split_at}
use Rattle.scp_words.specs.Words.{hex_word}
use Rattle.scp_script.specs.Words.{same, hex_bytes, is_skipped}
use Rattle.scp_live_lines.specs.Back.{sent_by, sent_on, sent_in, IsWord, SaysNothing}
use Rattle.scp_live_lines.proofs.Back.{IsPlain, plain_hex, plain_word, read_behind, one_line}

-- no line feed
abbrev pub clear : List ℕ → Bool
clear text = list_all (λ b. not (b == 10)) text

and_both : (a b : Bool) → (a && b) ≡ true → (a ≡ true) × (b ≡ true)
and_both true true e = (refl, refl)
and_both true false e = absurd cc
and_both false b e = absurd cc

not_false : (b : Bool) → not b ≡ true → b ≡ false
not_false true e = absurd cc
not_false false e = refl

pub clear_both : (a b : List ℕ) → clear a ≡ true → clear b ≡ true → clear (a ++ b) ≡ true
clear_both [] b h k = k
clear_both (x ∷ xs) b h k = let both = and_both (not (x == 10)) (clear xs) h in rw (both.0, clear_both xs b both.1 k) refl

-- two texts with a space between them
pub spaced : (a b : List ℕ) → clear a ≡ true → clear b ≡ true → clear (a ++ codes " " ++ b) ≡ true
spaced a b h k = clear_both (a ++ codes " ") b (clear_both a (codes " ") h refl) k

feedless : (text : List ℕ) → clear text ≡ true → All (λ b. (b == 10) ≡ false) text
feedless [] h = All-nil (λ b. (b == 10) ≡ false)
feedless (x ∷ xs) h = let both = and_both (not (x == 10)) (clear xs) h in All-cons (λ b. (b == 10) ≡ false) x xs (not_false (x == 10) both.0) (feedless xs both.1)

plain_clear : (text : List ℕ) → All IsPlain text → clear text ≡ true
plain_clear [] h = refl
plain_clear (x ∷ xs) h = rw ((All-head IsPlain x xs h).1, plain_clear xs (All-tail IsPlain x xs h)) refl

pub hex_clear : (bytes : List ℕ) → clear (hex_word bytes) ≡ true
hex_clear bytes = plain_clear (hex_word bytes) (plain_hex bytes)

pub word_clear : (name : List ℕ) → IsWord name → clear name ≡ true
word_clear name h = plain_clear name (plain_word name h)

clear_glyph : (d : ℕ) → not (digit_glyph false d == 10) ≡ true
clear_glyph d = by (nat_lt d 10)
  where
    by : (b : Bool) → not ((if b then 48 + d else 87 + d) == 10) ≡ true
    by true = grind (arith, nat_tests)
    by false = grind (arith, nat_tests)

clear_onto : (k n : ℕ) (acc : List ℕ) → clear acc ≡ true → clear (digits_onto k 10 false n acc) ≡ true
clear_onto zero n acc h = h
clear_onto (suc k) n acc h = by (n / 10 == 0) more (clear_onto k (n / 10) (digit_glyph false (n % 10) ∷ acc) more)
  where
    more : clear (digit_glyph false (n % 10) ∷ acc) ≡ true
    more = rw (clear_glyph (n % 10), h) refl

    by : (b : Bool) → clear (digit_glyph false (n % 10) ∷ acc) ≡ true → clear (digits_onto k 10 false (n / 10) (digit_glyph false (n % 10) ∷ acc)) ≡ true → clear (if b then digit_glyph false (n % 10) ∷ acc else digits_onto k 10 false (n / 10) (digit_glyph false (n % 10) ∷ acc)) ≡ true
    by true one all = one
    by false one all = all

pub number_clear : (n : ℕ) → clear (decimal n) ≡ true
unfolding digits
number_clear n = clear_onto 64 n [] refl

-- ---- lines of another word

abbrev pub is_plain : List ℕ → Bool
is_plain text = list_all (λ b. not (b == 32) && not (b == 10)) text

spaceless : (text : List ℕ) → is_plain text ≡ true → All (λ b. (b == 32) ≡ false) text
spaceless [] h = All-nil (λ b. (b == 32) ≡ false)
spaceless (x ∷ xs) h =
    let both = and_both (not (x == 32) && not (x == 10)) (is_plain xs) h in
    let one = and_both (not (x == 32)) (not (x == 10)) both.0 in
    All-cons (λ b. (b == 32) ≡ false) x xs (not_false (x == 32) one.0) (spaceless xs both.1)

plain_is_clear : (text : List ℕ) → is_plain text ≡ true → clear text ≡ true
plain_is_clear [] h = refl
plain_is_clear (x ∷ xs) h =
    let both = and_both (not (x == 32) && not (x == 10)) (is_plain xs) h in
    let one = and_both (not (x == 32)) (not (x == 10)) both.0 in
    rw (one.1, plain_is_clear xs both.1) refl

other_verb : (verb : List ℕ) (words : List (List ℕ)) → same verb (codes "send") ≡ false → option_to_list (sent_by (verb ∷ words)) ≡ []
other_verb verb [] s = refl
other_verb verb (x ∷ []) s = refl
other_verb verb (x ∷ y ∷ []) s = ap (λ (t : Bool). option_to_list (cond t (option_map (λ bytes. (x, bytes)) (hex_bytes y)) None)) s
other_verb verb (x ∷ y ∷ z ∷ words) s = refl

unread : (verb rest : List ℕ) → is_plain verb ≡ true → same verb (codes "send") ≡ false → sent_on (verb ++ 32 ∷ rest) ≡ []
unread verb rest p s = by (is_skipped line)
  where
    line : List ℕ
    line = verb ++ 32 ∷ rest

    cut : ℕ → Bool
    cut b = b == 32

    by : (b : Bool) → option_to_list (sent_by (if b then [] else slice_split cut line)) ≡ []
    by true = refl
    by false = ap (λ (ws : List (List ℕ)). option_to_list (sent_by ws)) (slice_split_at cut verb 32 rest (spaceless verb p) refl) ∙ other_verb verb (slice_split cut rest) s

-- a line whose first word is another one
pub other_line : (verb rest : List ℕ) → is_plain verb ≡ true → same verb (codes "send") ≡ false → clear rest ≡ true → SaysNothing (verb ++ 32 ∷ (rest ++ 10 ∷ []))
other_line verb rest p s r =
    λ more. ap sent_in (pieces more) ∙ (read_behind line more ∙ ap (λ (xs : List (List ℕ × List ℕ)). xs ++ sent_in more) (one_line line (feedless line whole) ∙ unread verb rest p s))
  where
    line : List ℕ
    line = verb ++ 32 ∷ rest

    whole : clear line ≡ true
    whole = clear_both verb (32 ∷ rest) (plain_is_clear verb p) r

    pieces : (more : List ℕ) → (verb ++ 32 ∷ (rest ++ 10 ∷ [])) ++ more ≡ (verb ++ 32 ∷ rest) ++ 10 ∷ more
    pieces more = simp append_assoc

pub nothing_both : (a b : List ℕ) → SaysNothing a → SaysNothing b → SaysNothing (a ++ b)
nothing_both a b h k = λ more. ap sent_in (append_assoc a b more) ∙ (h (b ++ more) ∙ k more)

pub nothing_each : {X : Type 0} (f : X → List ℕ) → ((x : X) → SaysNothing (f x)) → (xs : List X) → SaysNothing (flat_map f xs)
nothing_each f h [] = λ more. refl
nothing_each f h (x ∷ xs) = nothing_both (f x) (flat_map f xs) (h x) (nothing_each f h xs)
