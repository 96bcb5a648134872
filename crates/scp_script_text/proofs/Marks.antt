-- Texts parted at a mark, and put together again.
use Rattle.std.proofs.Common.{◌≡◌, ℕ, zero, suc, ◌+◌, ◌<◌, ◌≤◌, Bool, true, false, List, [], ◌∷◌, ◌++◌, length, take, drop, refl, sym, ◌∙◌, ap, subst, arith}
use Rattle.std.specs.Prelude.{◌==◌, ◌||◌, cond}
use Rattle.std.specs.List.{slice_split, onto_first, join_with_byte, AllByRecursion, All}
use Rattle.std.proofs.lemmas.List.Splits.{slice_split_none, slice_split_at, join_with_byte-slice_split}
use Rattle.std.proofs.lemmas.List.Elements.{All-from_recursion}
use Rattle.std.proofs.lemmas.Bool.Decides.{nat_tests}
use Rattle.scp_text.specs.Laws.{HasNo}
use Rattle.scp_script_text.specs.Lines.{before}
use Rattle.scp_script_text.specs.Scripts.{lines_of}
use Rattle.scp_script_text.specs.SlotTexts.{has_line_feed}

here : (mark : ℕ) → (mark == mark) ≡ true
here mark = grind (arith, nat_tests)

abbrev pub parts_at : ℕ → List ℕ → List (List ℕ)
parts_at mark text = slice_split (λ b. b == mark) text

-- one part, where the mark isn't in the text
pub one_part : (mark : ℕ) (text : List ℕ) → HasNo mark text → parts_at mark text ≡ text ∷ []
one_part mark text h = slice_split_none (λ b. b == mark) text (All-from_recursion (λ b. (b == mark) ≡ false) text h)

-- words with a space behind each are parted there
pub parts_before : (words : List (List ℕ)) (last : List ℕ) → AllByRecursion (HasNo 32) words → parts_at 32 (before words last) ≡ words ++ parts_at 32 last
parts_before [] last h = refl
parts_before (w ∷ ws) last h =
    slice_split_at (λ b. b == 32) w 32 (before ws last) (All-from_recursion (λ b. (b == 32) ≡ false) w h.0) (here 32) ∙ ap (λ l. w ∷ l) (parts_before ws last h.1)

-- lines with a line feed between two are parted there
pub parts_joined : (line : List ℕ) (lines : List (List ℕ)) → AllByRecursion (HasNo 10) (line ∷ lines) → parts_at 10 (join_with_byte 10 (line ∷ lines)) ≡ line ∷ lines
parts_joined line [] h = one_part 10 line h.0
parts_joined line (next ∷ lines) h =
    slice_split_at (λ b. b == 10) line 10 (join_with_byte 10 (next ∷ lines)) (All-from_recursion (λ b. (b == 10) ≡ false) line h.0) (here 10) ∙ ap (λ l. line ∷ l) (parts_joined next lines h.1)

-- what was parted is put together again
pub joined_again : (mark : ℕ) (text : List ℕ) → join_with_byte mark (parts_at mark text) ≡ text
joined_again mark text = join_with_byte-slice_split mark text

pub joined_before : (words : List (List ℕ)) (last : List ℕ) → join_with_byte 32 (words ++ last ∷ []) ≡ before words last
joined_before [] last = refl
joined_before (w ∷ []) last = refl
joined_before (w ∷ v ∷ vs) last = ap (λ l. w ++ 32 ∷ l) (joined_before (v ∷ vs) last)

-- ---- what isn't in a text isn't in its parts, and the mark is in none of them

first_clear : (mark x : ℕ) (parts : List (List ℕ)) → (x == mark) ≡ false → AllByRecursion (HasNo mark) parts → AllByRecursion (HasNo mark) (onto_first x parts)
first_clear mark x [] e h = ((e, tt), tt)
first_clear mark x (p ∷ ps) e h = ((e, h.0), h.1)

pub parts_clear : (mark : ℕ) (text : List ℕ) → AllByRecursion (HasNo mark) (parts_at mark text)
parts_clear mark [] = (tt, tt)
parts_clear mark (x ∷ xs) = by (parts_clear mark xs) (x == mark) refl
  where
    by : AllByRecursion (HasNo mark) (parts_at mark xs) → (b : Bool) → (x == mark) ≡ b → AllByRecursion (HasNo mark) (cond b ([] ∷ parts_at mark xs) (onto_first x (parts_at mark xs)))
    by rest true e = (tt, rest)
    by rest false e = first_clear mark x (parts_at mark xs) e rest

pub parts_keep : (mark other : ℕ) (text : List ℕ) → HasNo other text → AllByRecursion (HasNo other) (parts_at mark text)
parts_keep mark other [] h = (tt, tt)
parts_keep mark other (x ∷ xs) h = by (parts_keep mark other xs h.1) (x == mark)
  where
    by : AllByRecursion (HasNo other) (parts_at mark xs) → (b : Bool) → AllByRecursion (HasNo other) (cond b ([] ∷ parts_at mark xs) (onto_first x (parts_at mark xs)))
    by rest true = (tt, rest)
    by rest false = first_clear other x (parts_at mark xs) h.0 rest

pub take_clear : (mark n : ℕ) (texts : List (List ℕ)) → AllByRecursion (HasNo mark) texts → AllByRecursion (HasNo mark) (take n texts)
take_clear mark zero texts h = tt
take_clear mark (suc n) [] h = tt
take_clear mark (suc n) (t ∷ ts) h = (h.0, take_clear mark n ts h.1)

both_clear : (mark : ℕ) (xs ys : List ℕ) → HasNo mark xs → HasNo mark ys → HasNo mark (xs ++ ys)
both_clear mark [] ys p q = q
both_clear mark (x ∷ xs) ys p q = (p.0, both_clear mark xs ys p.1 q)

pub before_clear : (words : List (List ℕ)) (last : List ℕ) → AllByRecursion (HasNo 10) words → HasNo 10 last → HasNo 10 (before words last)
before_clear [] last p q = q
before_clear (w ∷ ws) last p q = both_clear 10 w (32 ∷ before ws last) p.0 (refl, before_clear ws last p.1 q)

-- ---- the lines of a script

-- there is a line
abbrev pub IsSome : List (List ℕ) → Type 0
IsSome [] = ⊥
IsSome (l ∷ ls) = Unit {0}

some_first : (x : ℕ) (parts : List (List ℕ)) → IsSome (onto_first x parts)
some_first x [] = tt
some_first x (p ∷ ps) = tt

pub some_line : (text : List ℕ) → IsSome (lines_of text)
some_line [] = tt
some_line (x ∷ xs) = by (x == 10)
  where
    by : (b : Bool) → IsSome (cond b ([] ∷ lines_of xs) (onto_first x (lines_of xs)))
    by true = tt
    by false = some_first x (lines_of xs)

pub parts_of_joined : (lines : List (List ℕ)) → IsSome lines → AllByRecursion (HasNo 10) lines → lines_of (join_with_byte 10 lines) ≡ lines
parts_of_joined [] s h = absurd s
parts_of_joined (l ∷ ls) s h = parts_joined l ls h

-- what has no line feed, byte by byte
pub clear_text : (text : List ℕ) → has_line_feed text ≡ false → HasNo 10 text
clear_text [] e = tt
clear_text (x ∷ xs) e = by (x == 10) refl e (clear_text xs)
  where
    by : (b : Bool) → (x == 10) ≡ b → (b || has_line_feed xs) ≡ false → (has_line_feed xs ≡ false → HasNo 10 xs) → HasNo 10 (x ∷ xs)
    by true h e more = absurd cc
    by false h e more = (h, more e)
