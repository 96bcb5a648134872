-- What words say: there are at most three, and the first tells whether bytes are among the others.
use Rattle.std.proofs.Common.{◌≡◌, ◌⊎◌, inl, inr, ◌<◌, ℕ, Bool, true, false, List, [], ◌∷◌, length, take, Option, Some, None, refl, sym, ◌∙◌, ap, subst, arith}
use Rattle.std.specs.Prelude.{codes, Result, Ok, Err, IfOk}
use Rattle.std.proofs.lemmas.List.{take_all}
use Rattle.scp_core.specs.scp_wire.specs.declared.link.Command.{Command}
use Rattle.scp_core.specs.scp_wire.specs.declared.link.Command.TheVariants.{Tick, Propose, Round, Timer, Ask}
use Rattle.scp_core.specs.declared.event.Event.{Event as Happening}
use Rattle.scp_core.specs.declared.event.Event.TheVariants.{Open, Send, Close, Local, ReaderTake, ReaderPut, PendTake, PendPut, SlotTake, SlotPut, ApplyTake, Drain}
use Rattle.scp_script.specs.Words.{is_ascii, is_skipped}
use Rattle.scp_script.specs.Reasons.{parts_of}
use Rattle.scp_live_lines.specs.declared.asked.Asked.{Asked}
use Rattle.scp_live_lines.specs.declared.asked.Asked.TheVariants.{Event, Again, State, Report, Stand, Applied, Nothing}
use Rattle.scp_live_lines.specs.declared.verb.Verb.{Verb}
use Rattle.scp_live_lines.specs.Verbs.{verb_in}
use Rattle.scp_live_lines.specs.Says.{Says, SaysBy, SaysCommand, SaysEvent, SaysInWords, has_value, event_has_bytes, has_bytes}
use Rattle.scp_live_lines.specs.inside.Forms.{takes_bytes}

-- ---- at most three words

command_few : (names words : List (List ℕ)) (c : Command) → SaysCommand names words c → length words < 4
command_few names words Tick h = let e = ap length h in omega arith
command_few names words (Propose slot value) h = let e = ap length h.3 in omega arith
command_few names words (Round slot) h = let e = ap length h.1 in omega arith
command_few names words (Timer slot) h = elim h.1 [ inl one ↦ (let e = ap length one in omega arith) | inr other ↦ (let e = ap length other in omega arith) ]
command_few names words (Ask link slot) h = let e = ap length h.2 in omega arith

event_few : (names words : List (List ℕ)) (x : Happening) → SaysEvent names words x → length words < 4
event_few names words (Open link) h = let e = ap length h.1 in omega arith
event_few names words (Send link bytes) h = let e = ap length h.3 in omega arith
event_few names words (Close link) h = let e = ap length h.1 in omega arith
event_few names words (Local command) h = command_few names words command h
event_few names words (ReaderTake link) h = absurd h
event_few names words (ReaderPut link) h = absurd h
event_few names words PendTake h = absurd h
event_few names words PendPut h = absurd h
event_few names words SlotTake h = absurd h
event_few names words SlotPut h = absurd h
event_few names words ApplyTake h = absurd h
event_few names words (Drain link) h = absurd h

says_few : (names words : List (List ℕ)) (a : Asked) → SaysInWords names words a → length words < 4
says_few names words (Event x) h = event_few names words x h
says_few names words (Again link) h = let e = ap length h.1 in omega arith
says_few names words State h = let e = ap length h in omega arith
says_few names words Report h = let e = ap length h in omega arith
says_few names words Stand h = let e = ap length h in omega arith
says_few names words (Applied slot) h = let e = ap length h.1 in omega arith
says_few names words Nothing h = absurd h

short : (words : List (List ℕ)) → length (take 4 words) < 4 → take 4 words ≡ words
short [] h = refl
short (a ∷ []) h = refl
short (a ∷ b ∷ []) h = refl
short (a ∷ b ∷ c ∷ []) h = refl
short (a ∷ b ∷ c ∷ d ∷ more) h = absurd (omega arith)

-- what the first four words say is what all of them say
pub says_whole : (names words : List (List ℕ)) (a : Asked) → SaysInWords names (take 4 words) a → SaysInWords names words a
says_whole names words a h = subst (λ (ws : List (List ℕ)). SaysInWords names ws a) (short words (says_few names (take 4 words) a h)) h

pub says_part : (names words : List (List ℕ)) (a : Asked) → SaysInWords names words a → SaysInWords names (take 4 words) a
says_part names words a h =
    let few : length words < 4 = says_few names words a h in
    subst (λ (ws : List (List ℕ)). SaysInWords names ws a) (sym (take_all 4 words (omega arith))) h

-- ---- bytes

-- whether a line that begins so has bytes
pub takes_by : Option Verb → Bool
takes_by (Some verb) = takes_bytes verb
takes_by None = false

first_of_both : (x y : List ℕ) (xs ys : List (List ℕ)) → x ∷ xs ≡ y ∷ ys → x ≡ y
first_of_both x y xs ys e = cc

told_by : (first word : List ℕ) (rest words : List (List ℕ)) (b : Bool) → first ∷ rest ≡ word ∷ words → takes_by (verb_in word) ≡ b → takes_by (verb_in first) ≡ b
told_by first word rest words b e t = subst (λ (w : List ℕ). takes_by (verb_in w) ≡ b) (sym (first_of_both first word rest words e)) t

command_bytes : (names : List (List ℕ)) (first : List ℕ) (rest : List (List ℕ)) (c : Command) → SaysCommand names (first ∷ rest) c → takes_by (verb_in first) ≡ has_value c
unfolding takes_by
command_bytes names first rest Tick h = told_by first (codes "tick") rest _ false h refl
command_bytes names first rest (Propose slot value) h = told_by first (codes "propose") rest _ true h.3 refl
command_bytes names first rest (Round slot) h = told_by first (codes "round") rest _ false h.1 refl
command_bytes names first rest (Timer slot) h = elim h.1 [ inl one ↦ told_by first (codes "timer") rest _ false one refl | inr other ↦ told_by first (codes "ballot") rest _ false other refl ]
command_bytes names first rest (Ask link slot) h = told_by first (codes "ask") rest _ false h.2 refl

event_bytes : (names : List (List ℕ)) (first : List ℕ) (rest : List (List ℕ)) (x : Happening) → SaysEvent names (first ∷ rest) x → takes_by (verb_in first) ≡ event_has_bytes x
unfolding takes_by
event_bytes names first rest (Open link) h = told_by first (codes "open") rest _ false h.1 refl
event_bytes names first rest (Send link bytes) h = told_by first (codes "recv") rest _ true h.3 refl
event_bytes names first rest (Close link) h = told_by first (codes "close") rest _ false h.1 refl
event_bytes names first rest (Local command) h = command_bytes names first rest command h
event_bytes names first rest (ReaderTake link) h = absurd h
event_bytes names first rest (ReaderPut link) h = absurd h
event_bytes names first rest PendTake h = absurd h
event_bytes names first rest PendPut h = absurd h
event_bytes names first rest SlotTake h = absurd h
event_bytes names first rest SlotPut h = absurd h
event_bytes names first rest ApplyTake h = absurd h
event_bytes names first rest (Drain link) h = absurd h

says_bytes : (names : List (List ℕ)) (first : List ℕ) (rest : List (List ℕ)) (a : Asked) → SaysInWords names (first ∷ rest) a → takes_by (verb_in first) ≡ has_bytes a
unfolding takes_by
says_bytes names first rest (Event x) h = event_bytes names first rest x h
says_bytes names first rest (Again link) h = told_by first (codes "again") rest _ false h.1 refl
says_bytes names first rest State h = told_by first (codes "state") rest _ false h refl
says_bytes names first rest Report h = told_by first (codes "report") rest _ false h refl
says_bytes names first rest Stand h = told_by first (codes "stand") rest _ false h refl
says_bytes names first rest (Applied slot) h = told_by first (codes "applied") rest _ false h.1 refl
says_bytes names first rest Nothing h = absurd h

-- a line whose first word takes bytes says something with bytes
pub has_them : (names : List (List ℕ)) (first : List ℕ) (rest : List (List ℕ)) (verb : Verb) → Some verb ≡ verb_in first → takes_bytes verb ≡ true → (a : Asked) → SaysInWords names (first ∷ rest) a → has_bytes a ≡ true
unfolding takes_by
has_them names first rest verb e t a h = sym (says_bytes names first rest a h) ∙ sym (ap takes_by e) ∙ t

-- ---- a line by its words

pub says_words : (names : List (List ℕ)) (line : List ℕ) (a : Asked) → is_skipped line ≡ false → Says names line a → SaysInWords names (parts_of line) a
says_words names line a e h = subst (λ (b : Bool). SaysBy b names line a) e h.1

pub words_say : (names : List (List ℕ)) (line : List ℕ) (a : Asked) → is_ascii line ≡ true → is_skipped line ≡ false → SaysInWords names (parts_of line) a → Says names line a
words_say names line a ascii e h = (ascii, subst (λ (b : Bool). SaysBy b names line a) (sym e) h)

pub skipped_says : (names : List (List ℕ)) (line : List ℕ) → is_ascii line ≡ true → is_skipped line ≡ true → Says names line Nothing
skipped_says names line ascii e = (ascii, subst (λ (b : Bool). SaysBy b names line Nothing) (sym e) refl)

-- ---- the words of a line, or the first four of them

pub either_says : {E : Type 0} (names words parts : List (List ℕ)) (r : Result Asked E) → (words ≡ parts) ⊎ (words ≡ take 4 parts) → IfOk r (SaysInWords names words) → IfOk r (SaysInWords names parts)
either_says names words parts (Ok a) (inl e) h = subst (λ (ws : List (List ℕ)). SaysInWords names ws a) e h
either_says names words parts (Ok a) (inr e) h = says_whole names parts a (subst (λ (ws : List (List ℕ)). SaysInWords names ws a) e h)
either_says names words parts (Err x) e h = tt

pub either_part : (names words parts : List (List ℕ)) (a : Asked) → (words ≡ parts) ⊎ (words ≡ take 4 parts) → SaysInWords names parts a → SaysInWords names words a
either_part names words parts a (inl e) h = subst (λ (ws : List (List ℕ)). SaysInWords names ws a) (sym e) h
either_part names words parts a (inr e) h = subst (λ (ws : List (List ℕ)). SaysInWords names ws a) (sym e) (says_part names parts a h)
