-- What the lines of a text say was sent.
use Rattle.std.proofs.Common.{◌≡◌, ◌==◌, ◌/◌, ◌%◌, ℕ, zero, suc, Bool, true, false, cond, List, [], ◌∷◌, ◌++◌, Option, Some, codes, refl, ◌∙◌, ap, append_assoc, flat_map, arith}
use Rattle.std.specs.Prelude.{◌&&◌, ◌≢◌, All, slice_index, option_map, option_to_list, nat_eq}
use Rattle.std.specs.List.{slice_split, onto_first}
use Rattle.std.specs.Result.{result_ok}
use Rattle.std.proofs.lemmas.Bool.Decides.{nat_tests}
use Rattle.std.proofs.lemmas.Grind.{flat_map-append}
use Rattle.std.proofs.lemmas.List.Elements.{All-nil, All-cons, All-append, All-head, All-tail, All-weaker}
use Rattle.std.proofs.lemmas.List.Splits.{slice_split_at, slice_split_none}
use Rattle.hex.specs.Hex.{IsBytes, lower_digits, encode_lower, encode_with, decode_of}
use Rattle.hex.proofs.HexLemmas.{decode_of-encode_lower}
use Rattle.scp_words.specs.Words.{hex_word}
use Rattle.scp_script.specs.Words.{lines_of, words_of, same, hex_bytes, digits_bytes}
use Rattle.scp_live_lines.specs.Sent.{send_line}
use Rattle.scp_live_lines.specs.Back.{sent_by, sent_on, sent_in, IsWord, IsSending}

-- no space, and no line feed
abbrev pub IsPlain : ℕ → Type 0
IsPlain b = ((b == 32) ≡ false) × ((b == 10) ≡ false)

plain_digit : (n : ℕ) → IsPlain (slice_index lower_digits n)
plain_digit zero = (refl, refl)
plain_digit (suc zero) = (refl, refl)
plain_digit (suc (suc zero)) = (refl, refl)
plain_digit (suc (suc (suc zero))) = (refl, refl)
plain_digit (suc (suc (suc (suc zero)))) = (refl, refl)
plain_digit (suc (suc (suc (suc (suc zero))))) = (refl, refl)
plain_digit (suc (suc (suc (suc (suc (suc zero)))))) = (refl, refl)
plain_digit (suc (suc (suc (suc (suc (suc (suc zero))))))) = (refl, refl)
plain_digit (suc (suc (suc (suc (suc (suc (suc (suc zero)))))))) = (refl, refl)
plain_digit (suc (suc (suc (suc (suc (suc (suc (suc (suc zero))))))))) = (refl, refl)
plain_digit (suc (suc (suc (suc (suc (suc (suc (suc (suc (suc zero)))))))))) = (refl, refl)
plain_digit (suc (suc (suc (suc (suc (suc (suc (suc (suc (suc (suc zero))))))))))) = (refl, refl)
plain_digit (suc (suc (suc (suc (suc (suc (suc (suc (suc (suc (suc (suc zero)))))))))))) = (refl, refl)
plain_digit (suc (suc (suc (suc (suc (suc (suc (suc (suc (suc (suc (suc (suc zero))))))))))))) = (refl, refl)
plain_digit (suc (suc (suc (suc (suc (suc (suc (suc (suc (suc (suc (suc (suc (suc zero)))))))))))))) = (refl, refl)
plain_digit (suc (suc (suc (suc (suc (suc (suc (suc (suc (suc (suc (suc (suc (suc (suc zero))))))))))))))) = (refl, refl)
plain_digit (suc (suc (suc (suc (suc (suc (suc (suc (suc (suc (suc (suc (suc (suc (suc (suc n)))))))))))))))) = (refl, refl)

plain_digits : (bytes : List ℕ) → All IsPlain (encode_lower bytes)
unfolding encode_with
plain_digits [] = All-nil IsPlain
plain_digits (b ∷ bytes) =
    let high = slice_index lower_digits (b / 16) in
    let low = slice_index lower_digits (b % 16) in
    All-cons IsPlain high (low ∷ encode_lower bytes) (plain_digit (b / 16)) (All-cons IsPlain low (encode_lower bytes) (plain_digit (b % 16)) (plain_digits bytes))

pub plain_hex : (bytes : List ℕ) → All IsPlain (hex_word bytes)
plain_hex [] = All-cons IsPlain 45 [] (refl, refl) (All-nil IsPlain)
plain_hex (b ∷ bytes) = plain_digits (b ∷ bytes)

never_both : (b : Bool) → (b && false) ≡ false
never_both true = refl
never_both false = refl

-- digits are no dash
no_dash : (b : ℕ) (bytes : List ℕ) → same (encode_lower (b ∷ bytes)) (codes "-") ≡ false
unfolding encode_with
no_dash b bytes = never_both (nat_eq (slice_index lower_digits (b / 16)) 45)

digits_back : (b : ℕ) (bytes : List ℕ) → digits_bytes (encode_lower (b ∷ bytes)) ≡ result_ok (decode_of (encode_lower (b ∷ bytes)))
unfolding encode_with
digits_back b bytes = refl

pub hex_back : (bytes : List ℕ) → IsBytes bytes → hex_bytes (hex_word bytes) ≡ Some bytes
hex_back [] h = refl
hex_back (b ∷ bytes) h =
    let word = encode_lower (b ∷ bytes) in
    ap (λ (t : Bool). cond t (Some []) (digits_bytes word)) (no_dash b bytes) ∙ (digits_back b bytes ∙ ap result_ok (decode_of-encode_lower (b ∷ bytes) h))

-- ---- the lines one after another

-- there is a part
abbrev IsSome : List (List ℕ) → Type 0
IsSome [] = ⊥
IsSome (part ∷ parts) = Unit {0}

some_first : (x : ℕ) (parts : List (List ℕ)) → IsSome (onto_first x parts)
some_first x [] = tt
some_first x (part ∷ parts) = tt

some_line : (text : List ℕ) → IsSome (lines_of text)
some_line [] = tt
some_line (x ∷ xs) = by (x == 10)
  where
    by : (b : Bool) → IsSome (cond b ([] ∷ lines_of xs) (onto_first x (lines_of xs)))
    by true = tt
    by false = some_first x (lines_of xs)

onto_front : (x : ℕ) (parts others : List (List ℕ)) → IsSome parts → onto_first x (parts ++ others) ≡ onto_first x parts ++ others
onto_front x [] others s = absurd s
onto_front x (part ∷ parts) others s = refl

pub lines_behind : (text more : List ℕ) → lines_of (text ++ 10 ∷ more) ≡ lines_of text ++ lines_of more
lines_behind [] more = refl
lines_behind (x ∷ xs) more = by (x == 10) (lines_behind xs more)
  where
    by : (b : Bool) → lines_of (xs ++ 10 ∷ more) ≡ lines_of xs ++ lines_of more → cond b ([] ∷ lines_of (xs ++ 10 ∷ more)) (onto_first x (lines_of (xs ++ 10 ∷ more))) ≡ cond b ([] ∷ lines_of xs) (onto_first x (lines_of xs)) ++ lines_of more
    by true e = ap (λ (ls : List (List ℕ)). [] ∷ ls) e
    by false e = ap (onto_first x) e ∙ onto_front x (lines_of xs) (lines_of more) (some_line xs)

pub read_behind : (text more : List ℕ) → sent_in (text ++ 10 ∷ more) ≡ sent_in text ++ sent_in more
read_behind text more = ap (flat_map sent_on) (lines_behind text more) ∙ flat_map-append sent_on (lines_of text) (lines_of more)

-- what a text without a line feed says is what its one line says
pub one_line : (line : List ℕ) → All (λ b. (b == 10) ≡ false) line → sent_in line ≡ sent_on line
one_line line h = ap (flat_map sent_on) (slice_split_none (λ b. b == 10) line h) ∙ alone (sent_on line)
  where
    alone : (xs : List (List ℕ × List ℕ)) → xs ++ [] ≡ xs
    alone [] = refl
    alone (x ∷ xs) = ap (λ (l : List (List ℕ × List ℕ)). x ∷ l) (alone xs)

-- ---- a line of its own

-- a `send` line without its end
abbrev pub body : List ℕ → List ℕ → List ℕ
body name bytes = codes "send" ++ 32 ∷ (name ++ 32 ∷ hex_word bytes)

pub parted : (name bytes more : List ℕ) → send_line name bytes ++ more ≡ body name bytes ++ 10 ∷ more
parted name bytes more = pieces name (hex_word bytes)
  where
    pieces : (n h : List ℕ) → (codes "send" ++ codes " " ++ n ++ codes " " ++ h ++ codes "\n") ++ more ≡ (codes "send" ++ 32 ∷ (n ++ 32 ∷ h)) ++ 10 ∷ more
    pieces n h = simp append_assoc

pub plain_word : (name : List ℕ) → IsWord name → All IsPlain name
plain_word name h = All-weaker (λ byte. (byte ≢ 32) × (byte ≢ 10)) IsPlain (λ b k. (other b 32 k.0, other b 10 k.1)) name h
  where
    other : (b c : ℕ) → b ≢ c → (b == c) ≡ false
    other b c k = grind (arith, nat_tests, k)

no_space : (text : List ℕ) → All IsPlain text → All (λ b. (b == 32) ≡ false) text
no_space text h = All-weaker IsPlain (λ b. (b == 32) ≡ false) (λ b k. k.0) text h

no_feed : (text : List ℕ) → All IsPlain text → All (λ b. (b == 10) ≡ false) text
no_feed text h = All-weaker IsPlain (λ b. (b == 10) ≡ false) (λ b k. k.1) text h

verb_plain : All IsPlain (codes "send")
verb_plain =
    All-cons IsPlain 115 (codes "end") (refl, refl) (All-cons IsPlain 101 (codes "nd") (refl, refl) (All-cons IsPlain 110 (codes "d") (refl, refl) (All-cons IsPlain 100 [] (refl, refl) (All-nil IsPlain))))

words_of_body : (name bytes : List ℕ) → All IsPlain name → words_of (body name bytes) ≡ codes "send" ∷ name ∷ hex_word bytes ∷ []
words_of_body name bytes h =
    let cut : ℕ → Bool = λ b. b == 32 in
    let word = hex_word bytes in
    let third : slice_split cut word ≡ word ∷ [] = slice_split_none cut word (no_space word (plain_hex bytes)) in
    let second : slice_split cut (name ++ 32 ∷ word) ≡ name ∷ slice_split cut word = slice_split_at cut name 32 word (no_space name h) refl in
    let first : slice_split cut (body name bytes) ≡ codes "send" ∷ slice_split cut (name ++ 32 ∷ word) = slice_split_at cut (codes "send") 32 (name ++ 32 ∷ word) (no_space (codes "send") verb_plain) refl in
    first ∙ ap (λ (ws : List (List ℕ)). codes "send" ∷ ws) (second ∙ ap (λ (ws : List (List ℕ)). name ∷ ws) third)

body_feedless : (name bytes : List ℕ) → All IsPlain name → All (λ b. (b == 10) ≡ false) (body name bytes)
body_feedless name bytes h =
    let P : ℕ → Type 0 = λ b. (b == 10) ≡ false in
    let word = hex_word bytes in
    All-append P (codes "send") (32 ∷ (name ++ 32 ∷ word)) (no_feed (codes "send") verb_plain)
    (All-cons P 32 (name ++ 32 ∷ word) refl (All-append P name (32 ∷ word) (no_feed name h) (All-cons P 32 word refl (no_feed word (plain_hex bytes)))))

said : (name bytes : List ℕ) → IsSending (name, bytes) → sent_on (body name bytes) ≡ (name, bytes) ∷ []
said name bytes s =
    let plain = plain_word name s.0 in
    let at : List (List ℕ) → List (List ℕ × List ℕ) = λ ws. option_to_list (sent_by ws) in
    let of : Option (List ℕ) → List (List ℕ × List ℕ) = λ bs. option_to_list (option_map (λ b. (name, b)) bs) in
    ap at (words_of_body name bytes plain) ∙ ap of (hex_back bytes s.1)

pub first_sent : (name bytes more : List ℕ) → IsSending (name, bytes) → sent_in (send_line name bytes ++ more) ≡ (name, bytes) ∷ sent_in more
first_sent name bytes more s =
    ap sent_in (parted name bytes more) ∙ (read_behind (body name bytes) more
    ∙ ap (λ (xs : List (List ℕ × List ℕ)). xs ++ sent_in more) (one_line (body name bytes) (body_feedless name bytes (plain_word name s.0)) ∙ said name bytes s))

pub come_back : (sendings : List (List ℕ × List ℕ)) → All IsSending sendings → sent_in (flat_map (λ s. send_line s.0 s.1) sendings) ≡ sendings
come_back [] h = refl
come_back (s ∷ ss) h =
    first_sent s.0 s.1 (flat_map (λ t. send_line t.0 t.1) ss) (All-head IsSending s ss h)
    ∙ ap (λ (l : List (List ℕ × List ℕ)). s ∷ l) (come_back ss (All-tail IsSending s ss h))
