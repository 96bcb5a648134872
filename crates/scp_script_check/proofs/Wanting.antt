-- The first bad line of a text, as a script in digits and as one that may have text, is the same where no line up to it carries anything.
use Rattle.std.proofs.Common.{◌≡◌, ◌⊎◌, inl, inr, ℕ, zero, suc, ◌+◌, ◌-◌, ◌<◌, ◌≤◌, Bool, true, false, not, ◌&&◌, ◌||◌, List, [], ◌∷◌, ◌++◌, length, take, drop, get_or, Option, Some, None, is_some, Result, Ok, Err, refl, sym, ◌∙◌, ap, subst, arith, drop-cons}
use Rattle.std.specs.Prelude.{OnOk, IfErr, IsErrOf}
use Rattle.std.specs.List.{list_any, list_all}
use Rattle.std.proofs.lemmas.List.{take_all, take-append-drop, length-take-le}
use Rattle.std.proofs.lemmas.List.Folds.{list_any-append, list_all-append}
use Rattle.scp_nominate.specs.scp_types.specs.declared.fault.Fault.{Fault}
use Rattle.scp_nominate.specs.scp_types.specs.declared.fault.Fault.TheVariants as fault
use Rattle.scp_script.specs.scp_device.specs.declared.bad.BadWord.{BadWord}
use Rattle.scp_script.specs.scp_device.specs.declared.bad.WordFault.TheVariants.{Bad}
use Rattle.scp_script_text.specs.scp_text.specs.Messages.{words_of}
use Rattle.scp_script_text.specs.declared.nodes.Carried.{Carried}
use Rattle.scp_script_text.specs.declared.script.Form.TheVariants.{Hex}
use Rattle.scp_script_text.specs.Lines.{carried_in}
use Rattle.scp_script_text.specs.Scripts.{lines_of, carries, IsLineBy, IsNoLineBy, AreLinesOf}
use Rattle.scp_script.specs.declared.command.Command.{Command}
use Rattle.scp_script.specs.Script.{is_line, AreAdmitted, AreLines, IsBadLine, HasNoBadLine, HasSetLine, IsScriptFault, commands_of}
use Rattle.scp_script.specs.Reading.{Stands}
use Rattle.scp_script.proofs.Lines.{commands_of-append, lines-more, last_stands}
use Rattle.scp_script.proofs.Admitted.{admitted_front}
use Rattle.scp_script.proofs.Judged.{line_after}
use Rattle.scp_script_check.specs.Lines.{IsSaid, IsBadAt, MayWant}
use Rattle.scp_script_check.specs.inside.Lines.{bad_line_of}

-- ---- lines that carry nothing

decided : (b : Bool) → (b ≡ true) ⊎ (b ≡ false)
decided true = inl refl
decided false = inr refl

both_false : (a b : Bool) → (a || b) ≡ false → (a ≡ false) × (b ≡ false)
both_false true b e = absurd cc
both_false false b e = (refl, e)

-- the line is its own digits, and no text in it is refused
bare_by : (o : Option Carried) (line out : List ℕ) → is_some o ≡ false → IsLineBy o Hex line out → out ≡ line
bare_by None line out e h = h
bare_by (Some c) line out e h = absurd cc

bare_is : (o : Option Carried) (line : List ℕ) → is_some o ≡ false → IsLineBy o Hex line line
bare_is None line e = refl
bare_is (Some c) line e = absurd cc

bare_unrefused : (o : Option Carried) (line : List ℕ) (refusal : BadWord) → is_some o ≡ false → IsNoLineBy o Hex line (Bad refusal) → ⊥
bare_unrefused None line refusal e h = h
bare_unrefused (Some c) line refusal e h = absurd cc

own_digits : (lines outs : List (List ℕ)) → list_any carries lines ≡ false → AreLinesOf Hex lines outs → outs ≡ lines
own_digits [] [] e w = refl
own_digits [] (o ∷ os) e w = absurd w
own_digits (x ∷ xs) [] e w = absurd w
own_digits (x ∷ xs) (o ∷ os) e w =
    let h = both_false (carries x) (list_any carries xs) e in
    let first : o ≡ x = bare_by (carried_in (words_of x)) x o h.0 w.0 in
    let rest : os ≡ xs = own_digits xs os h.1 w.1 in
    ap (λ (y : List ℕ). y ∷ os) first ∙ ap (λ (ys : List (List ℕ)). x ∷ ys) rest

are_digits : (lines : List (List ℕ)) → list_any carries lines ≡ false → AreLinesOf Hex lines lines
are_digits [] e = tt
are_digits (x ∷ xs) e = let h = both_false (carries x) (list_any carries xs) e in (bare_is (carried_in (words_of x)) x h.0, are_digits xs h.1)

-- ---- fronts of lists

take_front : {X : Type 0} (front back : List X) (x : X) (n : ℕ) → n ≡ length front + 1 → take n (front ++ x ∷ back) ≡ front ++ x ∷ []
take_front [] back x n e = ap (λ (k : ℕ). take k (x ∷ back)) e
take_front (y ∷ front) back x zero e = absurd (omega (arith, e))
take_front (y ∷ front) back x (suc n) e = ap (λ l. y ∷ l) (take_front front back x n (omega (arith, e)))

take_before : {X : Type 0} (front back : List X) (x : X) (n : ℕ) → n ≡ length front → take n (front ++ x ∷ back) ≡ front
take_before [] back x n e = ap (λ (k : ℕ). take k (x ∷ back)) e
take_before (y ∷ front) back x zero e = absurd (omega (arith, e))
take_before (y ∷ front) back x (suc n) e = ap (λ l. y ∷ l) (take_before front back x n (omega (arith, e)))

length_more : {X : Type 0} (front back : List X) (x : X) → length front + 1 ≤ length (front ++ x ∷ back)
length_more [] back x = omega arith
length_more (y ∷ front) back x = let h = length_more front back x in omega (arith, h)

-- a front begins with each shorter one
shorter : {X : Type 0} (m n : ℕ) (xs : List X) → m ≤ n → (rest : List X) × (take n xs ≡ take m xs ++ rest)
shorter zero n xs h = (take n xs, refl)
shorter (suc m) zero xs h = absurd (omega (arith, h))
shorter (suc m) (suc n) [] h = ([], refl)
shorter (suc m) (suc n) (x ∷ xs) h = let r = shorter m n xs (omega (arith, h)) in (r.0, ap (λ l. x ∷ l) r.1)

or_right : (a b : Bool) → b ≡ true → (a || b) ≡ true
or_right true b e = refl
or_right false b e = e

or_left : (a b : Bool) → a ≡ true → (a || b) ≡ true
or_left true b e = refl
or_left false b e = absurd cc

any_longer : {X : Type 0} (p : X → Bool) (m n : ℕ) (xs : List X) → m ≤ n → list_any p (take m xs) ≡ true → list_any p (take n xs) ≡ true
any_longer p m n xs h e =
    let r = shorter m n xs h in
    ap (list_any p) r.1 ∙ list_any-append p (take m xs) r.0 ∙ or_left (list_any p (take m xs)) (list_any p r.0) e

-- what holds of all lines holds of the first ones
lines_front : (xs ys : List (List ℕ)) → AreLines (xs ++ ys) → AreLines xs
lines_front xs ys h = record {
  each = first (list_all is_line xs) (list_all is_line ys) (sym (list_all-append is_line xs ys) ∙ h.each);
  admitted = admitted_front [] (commands_of xs) (commands_of ys) (subst (λ (l : List Command). AreAdmitted [] l) (commands_of-append xs ys) h.admitted);
}
  where
    first : (a b : Bool) → (a && b) ≡ true → a ≡ true
    first true b e = refl
    first false b e = e

-- ---- the first bad line

last_bare : (front : List (List ℕ)) (line : List ℕ) → list_any carries (front ++ line ∷ []) ≡ false → (list_any carries front ≡ false) × (carries line ≡ false)
last_bare front line e =
    let h = both_false (list_any carries front) (list_any carries (line ∷ [])) (sym (list_any-append carries front (line ∷ [])) ∙ e) in
    (h.0, (both_false (carries line) false h.1).0)

pub bad_in_digits : (text : List ℕ) (number : ℕ) → IsBadAt text number → list_any carries (take number (lines_of text)) ≡ false → IsBadLine text number
bad_in_digits text number b none =
    let upto : take number (lines_of text) ≡ b.front ++ b.line ∷ [] = ap (λ (l : List (List ℕ)). take number l) b.lines ∙ take_front b.front b.back b.line number b.place in
    let bare = last_bare b.front b.line (sym (ap (list_any carries) upto) ∙ none) in
    let own : b.digits ≡ b.front = own_digits b.front b.digits bare.0 b.written in
    let before : number - 1 ≡ length b.front = omega (arith, b.place) in
    let front_is : take (number - 1) (lines_of text) ≡ b.front = ap (λ (l : List (List ℕ)). take (number - 1) l) b.lines ∙ take_before b.front b.back b.line (number - 1) before in
    let long : length b.front + 1 ≤ length (lines_of text) = subst (λ (l : List (List ℕ)). length b.front + 1 ≤ length l) (sym b.lines) (length_more b.front b.back b.line) in
    record {
      from_one = omega (arith, b.place);
      within = omega (arith, b.place, long);
      good = subst (λ (l : List (List ℕ)). AreLines l) (own ∙ sym front_is) b.good;
      bad = λ all.
          let stands : Stands (commands_of b.front) b.line = last_stands b.front b.line (subst (λ (l : List (List ℕ)). AreLines l) upto all) in
          elim b.is_bad [
            | inl refused ↦ bare_unrefused (carried_in (words_of b.line)) b.line refused.0 bare.1 refused.1
            | inr kept ↦
                let same : kept.0 ≡ b.line = bare_by (carried_in (words_of b.line)) b.line kept.0 bare.1 kept.1 in
                kept.2 (subst (λ (l : List (List ℕ)). Stands (commands_of l) kept.0) (sym own) (subst (λ (d : List ℕ). Stands (commands_of b.front) d) (sym same) stands))
          ];
    }

parted : (lines : List (List ℕ)) (k : ℕ) (d : List ℕ) → k < length lines → lines ≡ take k lines ++ get_or lines k d ∷ drop (suc k) lines
parted lines k d lt = sym (take-append-drop k lines) ∙ ap (λ (l : List (List ℕ)). take k lines ++ l) (drop-cons lines k d lt)

pub bad_as_told : (text : List ℕ) (number : ℕ) → IsBadLine text number → list_any carries (take number (lines_of text)) ≡ false → IsBadAt text number
bad_as_told text number b none =
    let k = number - 1 in
    let lines = lines_of text in
    let lt : k < length lines = omega (arith, b.from_one, b.within) in
    let line = get_or lines k [] in
    let parts : lines ≡ take k lines ++ line ∷ drop (suc k) lines = parted lines k [] lt in
    let few : length (take k lines) ≡ k = length-take-le k lines (omega (arith, lt)) in
    let upto : take number lines ≡ take k lines ++ line ∷ [] = ap (λ (l : List (List ℕ)). take number l) parts ∙ take_front (take k lines) (drop (suc k) lines) line number (omega (arith, few, b.from_one)) in
    let bare = last_bare (take k lines) line (sym (ap (list_any carries) upto) ∙ none) in
    record {
      front = take k lines;
      line = line;
      back = drop (suc k) lines;
      digits = take k lines;
      lines = parts;
      place = omega (arith, few, b.from_one);
      written = are_digits (take k lines) bare.0;
      good = b.good;
      is_bad = inr (line, bare_is (carried_in (words_of line)) line bare.1, λ stands. b.bad (subst (λ (l : List (List ℕ)). AreLines l) (sym upto) (lines-more (take k lines) line b.good stands)));
    }

-- ---- what may be told as want of memory

-- where no line is bad as one in digits
pub wants_none : (text : List ℕ) → HasNoBadLine text → MayWant text
wants_none text none = inr (inr (λ number b. elim (decided (list_any carries (take number (lines_of text)))) [
  | inl sure ↦ sure
  | inr bare ↦ absurd (none number (bad_in_digits text number b bare))
]))

-- where the first bad line as one in digits carries something, or stands behind one that does
pub wants_behind : (text : List ℕ) (number : ℕ) → IsBadLine text number → list_any carries (take number (lines_of text)) ≡ true → MayWant text
wants_behind text number first carrying = inr (inr (λ other b. elim (decided (list_any carries (take other (lines_of text)))) [
  | inl sure ↦ sure
  | inr bare ↦ either other (bad_in_digits text other b bare) bare
]))
  where
    either : (other : ℕ) → IsBadLine text other → list_any carries (take other (lines_of text)) ≡ false → list_any carries (take other (lines_of text)) ≡ true
    either other is bare = elim (apart number other) [
      | inl up ↦ any_longer carries number other (lines_of text) up carrying
      | inr down ↦
          let r = shorter other (number - 1) (lines_of text) (omega (arith, down, first.from_one)) in
          absurd (is.bad (lines_front (take other (lines_of text)) r.0 (subst (λ (l : List (List ℕ)). AreLines l) r.1 first.good)))
    ]
      where
        apart : (m n : ℕ) → (m ≤ n) ⊎ (n < m)
        apart zero n = inl (omega arith)
        apart (suc m) zero = inr (omega arith)
        apart (suc m) (suc n) = elim (apart m n) [ inl h ↦ inl (omega (arith, h)) | inr h ↦ inr (omega (arith, h)) ]

-- ---- what a reading told

pub told_bad : {A : Type 0} (text : List ℕ) (r : Result A Fault) (line : ℕ) → bad_line_of r ≡ Some line → IfErr r (IsScriptFault text) → IsBadLine text line
told_bad text (Ok x) line e h = absurd cc
told_bad text (Err (fault.BadScript other)) line e h = let same : other ≡ line = cc in subst (λ (n : ℕ). IsBadLine text n) same h
told_bad text (Err fault.NoMemory) line e h = absurd cc
told_bad text (Err (fault.Malformed place)) line e h = absurd cc
told_bad text (Err fault.TooLong) line e h = absurd cc
told_bad text (Err fault.Insane) line e h = absurd cc
told_bad text (Err fault.Full) line e h = absurd cc
told_bad text (Err fault.NotOpen) line e h = absurd cc
told_bad text (Err fault.AlreadyOpen) line e h = absurd cc
told_bad text (Err fault.LivesSpent) line e h = absurd cc
told_bad text (Err fault.BadConfig) line e h = absurd cc
told_bad text (Err fault.Failed) line e h = absurd cc
told_bad text (Err fault.JournalFull) line e h = absurd cc
told_bad text (Err (fault.Refused stage)) line e h = absurd cc
told_bad text (Err fault.Device) line e h = absurd cc

by_memory : (text : List ℕ) → HasNoBadLine text ⊎ HasSetLine text → MayWant text
by_memory text (inl none) = wants_none text none
by_memory text (inr set) = inr (inl set)

pub told_none : {A : Type 0} (text : List ℕ) (r : Result A Fault) → bad_line_of r ≡ None → OnOk r (HasNoBadLine text) → IfErr r (IsScriptFault text) → (IsErrOf r fault.NoMemory → HasNoBadLine text ⊎ HasSetLine text) → MayWant text
told_none text (Ok x) e good h want = wants_none text good
told_none text (Err (fault.BadScript other)) e good h want = absurd cc
told_none text (Err fault.NoMemory) e good h want = by_memory text (want refl)
told_none text (Err (fault.Malformed place)) e good h want = absurd h
told_none text (Err fault.TooLong) e good h want = absurd h
told_none text (Err fault.Insane) e good h want = absurd h
told_none text (Err fault.Full) e good h want = absurd h
told_none text (Err fault.NotOpen) e good h want = absurd h
told_none text (Err fault.AlreadyOpen) e good h want = absurd h
told_none text (Err fault.LivesSpent) e good h want = absurd h
told_none text (Err fault.BadConfig) e good h want = absurd h
told_none text (Err fault.Failed) e good h want = absurd h
told_none text (Err fault.JournalFull) e good h want = absurd h
told_none text (Err (fault.Refused stage)) e good h want = absurd h
told_none text (Err fault.Device) e good h want = absurd h

-- ---- whether lines carry nothing

-- so many lines were gone through, and none carries anything
pub bare_more : (lines : List (List ℕ)) (n m : ℕ) (x : List ℕ) → m ≡ n + 1 → (n < length lines) × (x ≡ get_or lines n x) → list_any carries (take n lines) ≡ false → carries x ≡ false → list_any carries (take m lines) ≡ false
bare_more lines n m x e next bare here =
    ap (λ (k : ℕ). list_any carries (take k lines)) e ∙ ap (list_any carries) (line_after lines n x next) ∙ list_any-append carries (take n lines) (x ∷ []) ∙ rw (bare, here) refl

pub bare_at : (lines : List (List ℕ)) (n count : ℕ) → n ≡ count → list_any carries (take n lines) ≡ false → list_any carries (take count lines) ≡ false
bare_at lines n count e bare = sym (ap (λ (k : ℕ). list_any carries (take k lines)) e) ∙ bare

-- the next one does
pub one_carries : (lines : List (List ℕ)) (n count : ℕ) (x : List ℕ) → n < count → (n < length lines) × (x ≡ get_or lines n x) → carries x ≡ true → list_any carries (take count lines) ≡ true
one_carries lines n count x more next here =
    any_longer carries (n + 1) count lines (omega (arith, more))
    (ap (list_any carries) (line_after lines n x next) ∙ list_any-append carries (take n lines) (x ∷ []) ∙ or_right (list_any carries (take n lines)) (carries x || false) (or_left (carries x) false here))

-- none of all
pub all_bare : (lines : List (List ℕ)) (n count : ℕ) → n ≡ length lines → n ≤ count → list_any carries (take n lines) ≡ false → list_any carries (take count lines) ≡ false
all_bare lines n count all more bare =
    ap (list_any carries) (take_all count lines (omega (arith, all, more))) ∙ sym (ap (list_any carries) (take_all n lines (omega (arith, all)))) ∙ bare

pub not_true : (b : Bool) → not b ≡ true → b ≡ false
not_true true e = absurd cc
not_true false e = refl

pub not_false : (b : Bool) → not b ≡ false → b ≡ true
not_false true e = refl
not_false false e = absurd cc

-- want of memory may be told of a text without a bad line
pub said_wants : (text : List ℕ) (commands : List Command) (lines : List ℕ) → IsSaid text commands lines → MayWant text
said_wants text commands lines said = inl (commands, lines, said)
