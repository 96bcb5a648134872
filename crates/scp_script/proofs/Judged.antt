-- Where a line may stand is the same for a command and for the same without its bytes; and what is told of lines one after the other
-- is told of the text.
use Rattle.std.proofs.Common.{◌≡◌, ◌↔◌, inr, ℕ, ◌+◌, ◌-◌, ◌<◌, Bool, true, false, ◌&&◌, ◌||◌, List, [], ◌∷◌, ◌++◌, length, take, drop, Option, Some, None, is_some, IsSomeAnd, IfSome, OnOk, Result, Ok, Err, option_map, option_to_list, refl, sym, ◌∙◌, ap, subst, arith, append-nil, zero, suc, get_or}
use Rattle.std.specs.Prelude.{◌==◌}
use Rattle.std.specs.List.{list_any, list_all, slice_split}
use Rattle.std.proofs.lemmas.List.{take_more, take_all, take-append-drop}
use Rattle.std.proofs.lemmas.List.Folds.{list_all-append, list_any-append}
use Rattle.std.proofs.lemmas.List.Sums.{fold-append, sum_by-append}
use Rattle.scp_script.specs.declared.command.Command.{Command}
use Rattle.scp_script.specs.declared.command.Command.TheVariants.{Caps, Nodes, Set, Open, Close, Send, Propose, Round, Timer, Tick, Ask, Settle, Wait, Report}
use Rattle.scp_script.specs.declared.known.Known.{Known}
use Rattle.scp_script.specs.declared.judging.Place.{Place}
use Rattle.scp_script.specs.declared.judging.Place.TheVariants as place
use Rattle.scp_script.specs.inside.Bare.{bare}
use Rattle.scp_script.specs.Words.{lines_of, words_of, is_ascii, is_skipped}
use Rattle.scp_script.specs.Script.{counted, begins, opens, closes, Admits, AreAdmitted, AreLines, IsScript, IsBadLine, HasNoBadLine, HasSetLine, is_line, is_set, command_in, commands_of}
use Rattle.scp_script.specs.Reading.{Knows, KnowsLinks, Stands}
use Rattle.scp_script.specs.inside.Judging.{IsPlace, IsPlaceOfWords}
use Rattle.scp_script.proofs.Admitted.{admitted_front}
use Rattle.scp_script.proofs.Lines.{commands_of-append, commands_of-more, command_in_other, lines-more, last_stands}

-- ---- commands without their bytes

or_none : (a : Bool) → (a || false) ≡ a
or_none true = refl
or_none false = refl

-- a command more
pub knows_more : (old noted new : Known) (before : List Command) (c : Command) → Knows old before → noted.count ≡ counted old.count c → noted.has_begun ≡ (old.has_begun || begins c) → new.count ≡ noted.count → new.has_begun ≡ noted.has_begun → KnowsLinks new.links (before ++ c ∷ []) → Knows new (before ++ c ∷ [])
knows_more old noted new before c knows count begun same_count same_begun links = record {
  count = same_count ∙ count ∙ ap (λ (n : ℕ). counted n c) knows.count ∙ sym (fold-append counted 0 before (c ∷ []));
  begun = same_begun ∙ begun ∙ ap (λ (b : Bool). b || begins c) knows.begun ∙ ap (λ (b : Bool). list_any begins before || b) (sym (or_none (begins c))) ∙ sym (list_any-append begins before (c ∷ []));
  links = links;
}

-- commands that do the same to what is known
knows_alike : (k : Known) (before : List Command) (c d : Command) → ((n : ℕ) → counted n c ≡ counted n d) → begins c ≡ begins d → ((from to : ℕ) → opens from to c ≡ opens from to d) → ((from to : ℕ) → closes from to c ≡ closes from to d)
    → Knows k (before ++ c ∷ []) → Knows k (before ++ d ∷ [])
knows_alike k before c d count begun opened closed h = record {
  count = h.count ∙ fold-append counted 0 before (c ∷ []) ∙ count _ ∙ sym (fold-append counted 0 before (d ∷ []));
  begun = h.begun ∙ list_any-append begins before (c ∷ []) ∙ (rw begun refl) ∙ sym (list_any-append begins before (d ∷ []));
  links = λ from to p q. record {
    opened = (h.links from to p q).opened ∙ fold-append _ false before (c ∷ []) ∙ (rw (opened from to, closed from to) refl) ∙ sym (fold-append _ false before (d ∷ []));
    lives = (h.links from to p q).lives ∙ sum_by-append _ before (c ∷ []) ∙ (rw (opened from to) refl) ∙ sym (sum_by-append _ before (d ∷ []));
  };
}

pub knows_whole : (k : Known) (before : List Command) (c : Command) → Knows k (before ++ bare c ∷ []) → Knows k (before ++ c ∷ [])
knows_whole k before (Caps capacities) h = h
knows_whole k before (Nodes count quorum) h = h
knows_whole k before (Set node set) h = h
knows_whole k before (Open from to) h = h
knows_whole k before (Close from to) h = h
knows_whole k before (Send from to bytes) h = knows_alike k before (Send from to []) (Send from to bytes) (λ n. refl) refl (λ f t. refl) (λ f t. refl) h
knows_whole k before (Propose node slot value) h = knows_alike k before (Propose node slot []) (Propose node slot value) (λ n. refl) refl (λ f t. refl) (λ f t. refl) h
knows_whole k before (Round node slot) h = h
knows_whole k before (Timer node slot) h = h
knows_whole k before (Tick node) h = h
knows_whole k before (Ask from to slot) h = h
knows_whole k before Settle h = h
knows_whole k before (Wait node things) h = h
knows_whole k before (Report node) h = h

admits_bare : (before : List Command) (c : Command) → Admits before (bare c) ↔ Admits before c
admits_bare before (Caps capacities) = (λ h. h, λ h. h)
admits_bare before (Nodes count quorum) = (λ h. h, λ h. h)
admits_bare before (Set node set) = (λ h. h, λ h. h)
admits_bare before (Open from to) = (λ h. h, λ h. h)
admits_bare before (Close from to) = (λ h. h, λ h. h)
admits_bare before (Send from to bytes) = (λ h. h, λ h. h)
admits_bare before (Propose node slot value) = (λ h. h, λ h. h)
admits_bare before (Round node slot) = (λ h. h, λ h. h)
admits_bare before (Timer node slot) = (λ h. h, λ h. h)
admits_bare before (Tick node) = (λ h. h, λ h. h)
admits_bare before (Ask from to slot) = (λ h. h, λ h. h)
admits_bare before Settle = (λ h. h, λ h. h)
admits_bare before (Wait node things) = (λ h. h, λ h. h)
admits_bare before (Report node) = (λ h. h, λ h. h)

some_value : {A : Type 0} (x y : A) → Some x ≡ Some y → x ≡ y
some_value x y e = cc e

-- words whose command stands, said of it without its bytes
pub words_stand : (before : List Command) (words : List (List ℕ)) (x : Command) (new : Known) → Some x ≡ option_map bare (command_in words) → Admits before x → Knows new (before ++ x ∷ []) → IsPlaceOfWords before words place.Stands new
words_stand before words x new e a k = by (command_in words) e
  where
    by : (o : Option Command) → Some x ≡ option_map bare o → IsSomeAnd o (Admits before) × Knows new (before ++ option_to_list o)
    by None e = absurd cc
    by (Some c) e =
        let same : x ≡ bare c = some_value x (bare c) e in
        ((admits_bare before c).0 (subst (λ (d : Command). Admits before d) same a), knows_whole new before c (subst (λ (d : Command). Knows new (before ++ d ∷ [])) same k))

-- words whose command may not stand
pub words_refused : (before : List Command) (words : List (List ℕ)) (x : Command) (new : Known) → Some x ≡ option_map bare (command_in words) → ¬ (Admits before x) → IsPlaceOfWords before words place.Bad new
words_refused before words x new e refused = by (command_in words) e
  where
    by : (o : Option Command) → Some x ≡ option_map bare o → ¬ (IsSomeAnd o (Admits before))
    by None e = λ h. h
    by (Some c) e =
        let same : x ≡ bare c = some_value x (bare c) e in
        λ h. refused (subst (λ (d : Command). Admits before d) (sym same) ((admits_bare before c).1 h))

-- words that say no command
pub words_unread : (before : List Command) (words : List (List ℕ)) (new : Known) → None ≡ option_map bare (command_in words) → IsPlaceOfWords before words place.Bad new
words_unread before words new e = by (command_in words) e
  where
    by : (o : Option Command) → None ≡ option_map bare o → ¬ (IsSomeAnd o (Admits before))
    by None e = λ h. h
    by (Some c) e = absurd cc

-- ---- a line by its words

stands_by : (before : List Command) (o : Option Command) (ascii skipped : Bool) → ascii ≡ true → IsSomeAnd o (Admits before) → ((ascii && (skipped || is_some o)) ≡ true) × IfSome o (Admits before)
stands_by before None ascii skipped a h = absurd h
stands_by before (Some c) true true a h = (refl, h)
stands_by before (Some c) true false a h = (refl, h)
stands_by before (Some c) false skipped a h = absurd cc

stood_by : (before : List Command) (o : Option Command) (ascii skipped : Bool) → skipped ≡ false → ((ascii && (skipped || is_some o)) ≡ true) × IfSome o (Admits before) → IsSomeAnd o (Admits before)
stood_by before None true false s h = cc h.0
stood_by before None false skipped s h = cc h.0
stood_by before None true true s h = absurd cc
stood_by before (Some c) ascii skipped s h = h.1

pub words_parted : (line text : List ℕ) → is_skipped line ≡ false → text ≡ line → slice_split (λ byte. byte == 32) text ≡ words_of line
words_parted line text s e = ap (λ (bytes : List ℕ). slice_split (λ byte. byte == 32) bytes) e ∙ rw s refl

pub place_by_words : (before : List Command) (line : List ℕ) (words : List (List ℕ)) (p : Place) (new : Known) → is_ascii line ≡ true → is_skipped line ≡ false → words ≡ words_of line → IsPlaceOfWords before words p new → IsPlace before line p new
place_by_words before line words place.Stands new a s e h =
    (stands_by before (command_in (words_of line)) (is_ascii line) (is_skipped line) a (subst (λ (ws : List (List ℕ)). IsSomeAnd (command_in ws) (Admits before)) e h.0), subst (λ (ws : List (List ℕ)). Knows new (before ++ option_to_list (command_in ws))) e h.1)
place_by_words before line words place.Bad new a s e h = λ stands. h (subst (λ (ws : List (List ℕ)). IsSomeAnd (command_in ws) (Admits before)) (sym e) (stood_by before (command_in (words_of line)) (is_ascii line) (is_skipped line) s stands))
place_by_words before line words place.Set new a s e h = sym (ap is_set e) ∙ h

-- a line that isn't ASCII is bad
pub not_ascii : (before : List Command) (line : List ℕ) → is_ascii line ≡ false → ¬ (Stands before line)
not_ascii before line e = λ h. by (is_ascii line) (is_skipped line || is_some (command_in (words_of line))) e h.0
  where
    by : (a b : Bool) → a ≡ false → (a && b) ≡ true → ⊥
    by true b e h = cc e
    by false b e h = cc h

-- a line that is skipped stands anywhere
pub skipped_stands : (before : List Command) (line : List ℕ) (new : Known) → is_ascii line ≡ true → is_skipped line ≡ true → Knows new before → IsPlace before line place.Stands new
skipped_stands before line new a s k =
    let none : words_of line ≡ [] = rw s refl in
    let said : command_in (words_of line) ≡ None = ap command_in none in
    ((rw (a, s) refl, subst (λ (o : Option Command). IfSome o (Admits before)) (sym said) tt), subst (λ (o : Option Command). Knows new (before ++ option_to_list o)) (sym said) (subst (λ (cs : List Command). Knows new cs) (sym (append-nil before)) k))

-- more than five words say no command
pub many_words : (before : List Command) (words : List (List ℕ)) (new : Known) → 5 < length words → IsPlaceOfWords before words place.Bad new
many_words before words new many = λ h. subst (λ (o : Option Command). IsSomeAnd o (Admits before)) (command_in_other words (inr many)) h

-- ---- the lines of a text

-- what holds of all lines holds of the first ones
lines_front : (xs ys : List (List ℕ)) → AreLines (xs ++ ys) → AreLines xs
lines_front xs ys h = record {
  each = first (list_all is_line xs) (list_all is_line ys) (sym (list_all-append is_line xs ys) ∙ h.each);
  admitted = admitted_front [] (commands_of xs) (commands_of ys) (subst (λ (l : List Command). AreAdmitted [] l) (commands_of-append xs ys) h.admitted);
}
  where
    first : (a b : Bool) → (a && b) ≡ true → a ≡ true
    first true b e = refl
    first false b e = e

-- a script has no bad line
pub script_has_no_bad_line : (text : List ℕ) → IsScript text → HasNoBadLine text
script_has_no_bad_line text script = λ line bad.
    bad.bad (lines_front (take line (lines_of text)) (drop line (lines_of text)) (subst (λ (l : List (List ℕ)). AreLines l) (sym (take-append-drop line (lines_of text))) script))

pub no_bad_line : {A E : Type 0} (text : List ℕ) (r : Result A E) → OnOk r (IsScript text) → OnOk r (HasNoBadLine text)
no_bad_line text (Ok a) script = script_has_no_bad_line text script
no_bad_line text (Err e) script = tt

-- the next line of a text
pub line_after : (lines : List (List ℕ)) (n : ℕ) (x : List ℕ) → (n < length lines) × (x ≡ get_or lines n x) → take (n + 1) lines ≡ take n lines ++ x ∷ []
line_after lines n x h = take_more lines n x h.0 ∙ ap (λ (y : List ℕ). take n lines ++ y ∷ []) (sym h.1)

-- one more line was taken in
pub one_more_line : (lines : List (List ℕ)) (n m : ℕ) (x : List ℕ) (new : Known) → m ≡ n + 1 → (n < length lines) × (x ≡ get_or lines n x) → AreLines (take n lines) → IsPlace (commands_of (take n lines)) x place.Stands new
    → Knows new (commands_of (take m lines)) × AreLines (take m lines)
one_more_line lines n m x new e next good told =
    let taken : take m lines ≡ take n lines ++ x ∷ [] = ap (λ (k : ℕ). take k lines) e ∙ line_after lines n x next in
    let says : commands_of (take m lines) ≡ commands_of (take n lines) ++ option_to_list (command_in (words_of x)) = ap (λ (l : List (List ℕ)). commands_of l) taken ∙ commands_of-more (take n lines) x in
    (subst (λ (cs : List Command). Knows new cs) (sym says) told.1, subst (λ (l : List (List ℕ)). AreLines l) (sym taken) (lines-more (take n lines) x good told.0))

-- a line that may not stand behind the others is the first bad one
pub first_bad : (text : List ℕ) (n m : ℕ) (x : List ℕ) → m ≡ n + 1 → (n < length (lines_of text)) × (x ≡ get_or (lines_of text) n x) → AreLines (take n (lines_of text)) → ¬ (Stands (commands_of (take n (lines_of text))) x) → IsBadLine text m
first_bad text n m x e next good fails =
    let before : m - 1 ≡ n = omega (arith, e) in
    let taken : take m (lines_of text) ≡ take n (lines_of text) ++ x ∷ [] = ap (λ (k : ℕ). take k (lines_of text)) e ∙ line_after (lines_of text) n x next in
    record {
      from_one = omega (arith, e);
      within = omega (arith, e, next.0);
      good = subst (λ (k : ℕ). AreLines (take k (lines_of text))) (sym before) good;
      bad = λ all. fails (last_stands (take n (lines_of text)) x (subst (λ (l : List (List ℕ)). AreLines l) taken all));
    }

-- one line of many
list_any_at : {A : Type 0} (p : A → Bool) (xs : List A) (n : ℕ) (x : A) → (n < length xs) × (x ≡ get_or xs n x) → p x ≡ true → list_any p xs ≡ true
list_any_at p [] n x h e = absurd (omega (arith, h.0))
list_any_at p (y ∷ ys) zero x h e = rw (sym h.1, e) refl
list_any_at p (y ∷ ys) (suc n) x h e = either (p y) (list_any_at p ys n x (omega (arith, h.0), h.1) e)
  where
    either : (a : Bool) → list_any p ys ≡ true → (a || list_any p ys) ≡ true
    either true e = refl
    either false e = e

pub has_set_line : (text : List ℕ) (n : ℕ) (x : List ℕ) → (n < length (lines_of text)) × (x ≡ get_or (lines_of text) n x) → is_set (words_of x) ≡ true → HasSetLine text
has_set_line text n x next e = list_any_at (λ (line : List ℕ). is_set (words_of line)) (lines_of text) n x next e

-- all lines were taken in
pub all_good : (text : List ℕ) (n : ℕ) → n ≡ length (lines_of text) → AreLines (take n (lines_of text)) → IsScript text
all_good text n e good = subst (λ (l : List (List ℕ)). AreLines l) (take_all n (lines_of text) (omega (arith, e))) good
