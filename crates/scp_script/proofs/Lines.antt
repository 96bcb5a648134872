-- Words and lines.
use Rattle.std.proofs.Common.{◌≡◌, ◌⊎◌, inl, inr, ℕ, ◌+◌, ◌<◌, Bool, true, false, ◌&&◌, List, [], ◌∷◌, ◌++◌, length, take, map, Option, Some, None, IfSome, option_map, option_to_list, refl, sym, ◌∙◌, ap, subst, arith, append_assoc, append-nil, suc, nat_lt, ◌^◌, Bor, get_or}
use Rattle.std.proofs.lemmas.Grind.{common_steps}
use Rattle.std.proofs.lemmas.Bool.Decides.{nat_tests}
use Rattle.std.specs.Str.{IsAscii}
use Rattle.std.specs.Str.Parse.{digits_value}
use Rattle.std.specs.Fmt.{decimal}
use Rattle.std.specs.Cmp.Lexicographic.{bytes_decides}
use Rattle.std.proofs.lemmas.List.{take_more, get_or-map, length-map}
use Rattle.std.proofs.lemmas.List.Folds.{list_all-append}
use Rattle.std.proofs.lemmas.Fmt.{decimal_is_IsNumeral}
use Rattle.std.specs.Prelude.{codes, if◌then◌else◌}
use Rattle.std.specs.List.{list_all}
use Rattle.scp_script.specs.declared.command.Command.{Command}
use Rattle.scp_script.specs.declared.reading.Reading.{Reading}
use Rattle.scp_script.specs.inside.Reading.{HasRead}
use Rattle.scp_script.specs.Reading.{TakesWords, Stands}
use Rattle.scp_script.specs.inside.Bare.{bare}
use Rattle.scp_script.specs.Words.{is_ascii, same, number_in, capacity_in, words_of}
use Rattle.scp_script.specs.Script.{is_line, caps_by, command_in, commands_of, Admits, AreAdmitted, AreLines}

-- no words, or more than five, are no command
pub command_in_other : (words : List (List ℕ)) → (length words < 1) ⊎ (5 < length words) → command_in words ≡ None
command_in_other [] h = refl
command_in_other (a ∷ []) (inl h) = absurd (omega arith)
command_in_other (a ∷ []) (inr h) = absurd (omega arith)
command_in_other (a ∷ b ∷ []) (inl h) = absurd (omega arith)
command_in_other (a ∷ b ∷ []) (inr h) = absurd (omega arith)
command_in_other (a ∷ b ∷ c ∷ []) (inl h) = absurd (omega arith)
command_in_other (a ∷ b ∷ c ∷ []) (inr h) = absurd (omega arith)
command_in_other (a ∷ b ∷ c ∷ d ∷ []) (inl h) = absurd (omega arith)
command_in_other (a ∷ b ∷ c ∷ d ∷ []) (inr h) = absurd (omega arith)
command_in_other (a ∷ b ∷ c ∷ d ∷ e ∷ []) (inl h) = absurd (omega arith)
command_in_other (a ∷ b ∷ c ∷ d ∷ e ∷ []) (inr h) = absurd (omega arith)
command_in_other (a ∷ b ∷ c ∷ d ∷ e ∷ f ∷ words) h = refl

pub commands_of-append : (xs ys : List (List ℕ)) → commands_of (xs ++ ys) ≡ commands_of xs ++ commands_of ys
commands_of-append [] ys = refl
commands_of-append (x ∷ xs) ys = ap (λ l. option_to_list (command_in (words_of x)) ++ l) (commands_of-append xs ys) ∙ grind (arith, common_steps)

pub commands_of-more : (xs : List (List ℕ)) (x : List ℕ) → commands_of (xs ++ x ∷ []) ≡ commands_of xs ++ option_to_list (command_in (words_of x))
commands_of-more xs x = commands_of-append xs (x ∷ []) ∙ grind (arith, common_steps)

-- commands behind others that may stand
admitted-append : (before xs ys : List Command) → AreAdmitted before xs → AreAdmitted (before ++ xs) ys → AreAdmitted before (xs ++ ys)
admitted-append before [] ys first second = subst (λ (l : List Command). AreAdmitted l ys) (append-nil before) second
admitted-append before (x ∷ xs) ys first second = (first.0, admitted-append (before ++ x ∷ []) xs ys first.1 (subst (λ (l : List Command). AreAdmitted l ys) (sym (append_assoc before (x ∷ []) xs)) second))

admitted-rest : (before xs ys : List Command) → AreAdmitted before (xs ++ ys) → AreAdmitted (before ++ xs) ys
admitted-rest before [] ys all = subst (λ (l : List Command). AreAdmitted l ys) (sym (append-nil before)) all
admitted-rest before (x ∷ xs) ys all = subst (λ (l : List Command). AreAdmitted l ys) (append_assoc before (x ∷ []) xs) (admitted-rest (before ++ x ∷ []) xs ys all.1)

admitted_option : (before : List Command) (o : Option Command) → IfSome o (Admits before) → AreAdmitted before (option_to_list o)
admitted_option before None h = tt
admitted_option before (Some command) h = (h, tt)

option_admitted : (before : List Command) (o : Option Command) → AreAdmitted before (option_to_list o) → IfSome o (Admits before)
option_admitted before None h = tt
option_admitted before (Some command) h = h.0

and_true : (a : Bool) → (a && true) ≡ a
and_true true = refl
and_true false = refl

both_true : (a b : Bool) → (a && b) ≡ true → (a ≡ true) × (b ≡ true)
both_true true b e = (refl, e)
both_true false b e = absurd cc

-- one more line, where it may stand behind the others
pub lines-more : (lines : List (List ℕ)) (x : List ℕ) → AreLines lines → Stands (commands_of lines) x → AreLines (lines ++ x ∷ [])
lines-more lines x h s = record {
  each = list_all-append is_line lines (x ∷ []) ∙ rw (h.each, s.0) refl;
  admitted = rw (commands_of-more lines x) (admitted-append [] (commands_of lines) (option_to_list (command_in (words_of x))) h.admitted (admitted_option (commands_of lines) (command_in (words_of x)) s.1));
}

-- the last line of a script may stand behind the others
pub last_stands : (lines : List (List ℕ)) (x : List ℕ) → AreLines (lines ++ x ∷ []) → Stands (commands_of lines) x
last_stands lines x h =
    let each : (list_all is_line lines && (is_line x && true)) ≡ true = sym (list_all-append is_line lines (x ∷ [])) ∙ h.each in
    let all : AreAdmitted [] (commands_of lines ++ option_to_list (command_in (words_of x))) = rw (commands_of-more lines x) at h.admitted in
    (sym (and_true (is_line x)) ∙ (both_true (list_all is_line lines) (is_line x && true) each).1, option_admitted (commands_of lines) (command_in (words_of x)) (admitted-rest [] (commands_of lines) (option_to_list (command_in (words_of x))) all))

-- a text of ASCII bytes is ASCII byte by byte
pub is_ascii-true : (line : List ℕ) → IsAscii line → is_ascii line ≡ true
is_ascii-true [] h = refl
is_ascii-true (x ∷ xs) h =
    let here : x < 128 = h 0 in
    let first : nat_lt x 128 ≡ true = grind (arith, nat_tests) in
    let rest : is_ascii xs ≡ true = is_ascii-true xs (λ i. h (suc i)) in
    rw (first, rest) refl

-- a word that is no number has none
pub no_number : (word : List ℕ) → ((n : ℕ) → n < 2 ^ 64 → word ≡ decimal n → ⊥) → number_in word ≡ None
no_number word none =
    by (nat_lt (digits_value 10 word) (2 ^ 64)) (same (decimal (digits_value 10 word)) word) refl refl
  where
    by : (a b : Bool) → nat_lt (digits_value 10 word) (2 ^ 64) ≡ a → same (decimal (digits_value 10 word)) word ≡ b → number_in word ≡ None
    by true true p q = absurd (none (digits_value 10 word) (grind (arith, nat_tests)) (sym ((bytes_decides (decimal (digits_value 10 word)) word).0 q)))
    by true false p q = rw (p, q) refl
    by false b p q = rw p refl

-- a word that prints a number says it
pub is_number : (word : List ℕ) (n : ℕ) → n < 2 ^ 64 → word ≡ decimal n → number_in word ≡ Some n
is_number word n small e =
    let value : digits_value 10 word ≡ n = ap (digits_value 10) e ∙ (decimal_is_IsNumeral n small).1 in
    let within : digits_value 10 word < 2 ^ 64 = omega (arith, value, small) in
    let short : nat_lt (digits_value 10 word) (2 ^ 64) ≡ true = grind (arith, nat_tests) in
    let printed : same (decimal (digits_value 10 word)) word ≡ true = (bytes_decides (decimal (digits_value 10 word)) word).1 (ap decimal value ∙ sym e) in
    rw (short, printed) (ap (λ (k : ℕ). Some k) value)

-- five words have no bytes to leave out
pub five_are_bare : (verb link inbox ready decided : List ℕ) → command_in (verb ∷ link ∷ inbox ∷ ready ∷ decided ∷ []) ≡ option_map bare (command_in (verb ∷ link ∷ inbox ∷ ready ∷ decided ∷ []))
five_are_bare verb link inbox ready decided = by (same verb (codes "caps")) (capacity_in link) (capacity_in inbox) (capacity_in ready) (capacity_in decided)
  where
    by : (b : Bool) (i j k l : Option ℕ) → (if b then caps_by i j k l else None) ≡ option_map bare (if b then caps_by i j k l else None)
    by false i j k l = refl
    by true None j k l = refl
    by true (Some a) None k l = refl
    by true (Some a) (Some b) None l = refl
    by true (Some a) (Some b) (Some c) None = refl
    by true (Some a) (Some b) (Some c) (Some d) = refl

-- a line more was read
pub reads-more : (old new : Reading) (lines : List (List ℕ)) (x : List ℕ) → HasRead old lines → TakesWords old (words_of x) new → HasRead new (lines ++ x ∷ [])
reads-more old new lines x r t = record {
  reading = t.reading;
  commands = t.commands ∙ ap (λ l. l ++ option_to_list (command_in (words_of x))) r.commands ∙ sym (commands_of-more lines x);
}

-- the line that a slice of lines has at a place comes next in the text
pub next_line : (items : List (Bor (List ℕ))) (lines : List (List ℕ)) (i : ℕ) (d : Bor (List ℕ)) → map (λ line. line.now) items ≡ lines → i < length items → take (i + 1) lines ≡ take i lines ++ (get_or items i d).now ∷ []
next_line items lines i d e h =
    let f : Bor (List ℕ) → List ℕ = λ line. line.now in
    let n : i < length (map f items) = rw length-map h in
    let P : List (List ℕ) → Type 0 = λ l. take (i + 1) l ≡ take i l ++ (get_or items i d).now ∷ [] in
    subst P e (take_more (map f items) i [] n ∙ ap (λ y. take i (map f items) ++ y ∷ []) (get_or-map f items i d [] h))
