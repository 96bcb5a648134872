-- What the words of a line say is one thing: the first tells which form it has, and the others fill it.
use Rattle.std.proofs.Common.{◌≡◌, inl, inr, ℕ, Bool, true, false, List, [], ◌∷◌, Some, refl, sym, ◌∙◌, ap, subst}
use Rattle.std.specs.Prelude.{codes}
use Rattle.std.specs.Fmt.{decimal}
use Rattle.std.proofs.lemmas.Fmt.{decimal_injective}
use Rattle.std.proofs.lemmas.Option.{slice_get-get_or}
use Rattle.scp_again.specs.scp_types.specs.declared.names.Slot.{Slot}
use Rattle.scp_again.specs.scp_wire.specs.declared.link.Command.{Command}
use Rattle.scp_again.specs.scp_wire.specs.declared.link.Command.TheVariants.{Tick, Propose, Round, Timer, Ask}
use Rattle.scp_again.specs.scp_core.specs.declared.event.Event.{Event as Happening}
use Rattle.scp_again.specs.scp_core.specs.declared.event.Event.TheVariants.{Open, Send, Close, Local, ReaderTake, ReaderPut, PendTake, PendPut, SlotTake, SlotPut, ApplyTake, Drain}
use Rattle.scp_report.specs.scp_script.specs.Words.{hex_bytes, is_skipped}
use Rattle.scp_report.specs.scp_script.specs.Reasons.{parts_of}
use Rattle.scp_live_lines.specs.declared.asked.Asked.{Asked}
use Rattle.scp_live_lines.specs.declared.asked.Asked.TheVariants.{Event, Again, State, Report, Stand, Applied, Nothing}
use Rattle.scp_live_lines.specs.declared.verb.Verb.{Verb}
use Rattle.scp_live_lines.specs.declared.verb.Verb.TheVariants as verbs
use Rattle.scp_live_lines.specs.Verbs.{verb_in}
use Rattle.scp_live_lines.specs.Says.{HasLink, IsSlot, name_of, SaysBy, SaysCommand, SaysEvent, SaysInWords}
use Rattle.scp_live.specs.Lines.{AreNamedApart, LinesSayOneThing}

-- ---- what the words fill

-- a link is named behind this word, or two things are said there
record OfLink (names : List (List ℕ)) (word : List ℕ) (make : ℕ → Asked) (words : List (List ℕ)) (a : Asked) : Type 0 where
  link : ℕ
  has : HasLink names link
  read : words ≡ word ∷ name_of names link ∷ []
  is : a ≡ make link

record OfSlot (word : List ℕ) (make : Slot → Asked) (words : List (List ℕ)) (a : Asked) : Type 0 where
  slot : Slot
  small : IsSlot slot
  read : words ≡ word ∷ decimal slot.0 ∷ []
  is : a ≡ make slot

record OfLinkAndSlot (names : List (List ℕ)) (word : List ℕ) (make : ℕ → Slot → Asked) (words : List (List ℕ)) (a : Asked) : Type 0 where
  link : ℕ
  slot : Slot
  has : HasLink names link
  small : IsSlot slot
  read : words ≡ word ∷ name_of names link ∷ decimal slot.0 ∷ []
  is : a ≡ make link slot

record OfLinkAndBytes (names : List (List ℕ)) (word : List ℕ) (make : ℕ → List ℕ → Asked) (words : List (List ℕ)) (a : Asked) : Type 0 where
  link : ℕ
  bytes : List ℕ
  digits : List ℕ
  has : HasLink names link
  spelled : hex_bytes digits ≡ Some bytes
  read : words ≡ word ∷ name_of names link ∷ digits ∷ []
  is : a ≡ make link bytes

record OfSlotAndBytes (word : List ℕ) (make : Slot → List ℕ → Asked) (words : List (List ℕ)) (a : Asked) : Type 0 where
  slot : Slot
  bytes : List ℕ
  digits : List ℕ
  small : IsSlot slot
  spelled : hex_bytes digits ≡ Some bytes
  read : words ≡ word ∷ decimal slot.0 ∷ digits ∷ []
  is : a ≡ make slot bytes

record OfNothing (word : List ℕ) (made : Asked) (words : List (List ℕ)) (a : Asked) : Type 0 where
  read : words ≡ word ∷ []
  is : a ≡ made

-- the words are of the form that this first word has
abbrev IsOf : List (List ℕ) → Verb → List (List ℕ) → Asked → Type 0
IsOf names verbs.Open words a = OfLink names (codes "open") (λ l. Event (Open l)) words a
IsOf names verbs.Close words a = OfLink names (codes "close") (λ l. Event (Close l)) words a
IsOf names verbs.Recv words a = OfLinkAndBytes names (codes "recv") (λ l bytes. Event (Send l bytes)) words a
IsOf names verbs.Propose words a = OfSlotAndBytes (codes "propose") (λ slot value. Event (Local (Propose slot value))) words a
IsOf names verbs.Round words a = OfSlot (codes "round") (λ slot. Event (Local (Round slot))) words a
IsOf names verbs.Timer words a = OfSlot (codes "timer") (λ slot. Event (Local (Timer slot))) words a
IsOf names verbs.Ballot words a = OfSlot (codes "ballot") (λ slot. Event (Local (Timer slot))) words a
IsOf names verbs.Tick words a = OfNothing (codes "tick") (Event (Local Tick)) words a
IsOf names verbs.Ask words a = OfLinkAndSlot names (codes "ask") (λ l slot. Event (Local (Ask l slot))) words a
IsOf names verbs.Again words a = OfLink names (codes "again") (λ l. Again l) words a
IsOf names verbs.State words a = OfNothing (codes "state") State words a
IsOf names verbs.Report words a = OfNothing (codes "report") Report words a
IsOf names verbs.Stand words a = OfNothing (codes "stand") Stand words a
IsOf names verbs.Applied words a = OfSlot (codes "applied") (λ slot. Applied slot) words a

-- ---- each is of the form of its first word

-- the first of the words, if there is one
abbrev first_of : List (List ℕ) → List ℕ
first_of [] = []
first_of (word ∷ words) = word

-- what the first word says, and that the words have its form
record Formed (names words : List (List ℕ)) (a : Asked) : Type 0 where
  verb : Verb
  first : verb_in (first_of words) ≡ Some verb
  form : IsOf names verb words a

told : (words rest : List (List ℕ)) (word : List ℕ) (verb : Verb) → words ≡ word ∷ rest → verb_in word ≡ Some verb → verb_in (first_of words) ≡ Some verb
told words rest word verb e is = ap (λ (ws : List (List ℕ)). verb_in (first_of ws)) e ∙ is

command_formed : (names words : List (List ℕ)) (c : Command) → SaysCommand names words c → Formed names words (Event (Local c))
command_formed names words Tick h = record { verb = verbs.Tick; first = told words _ (codes "tick") verbs.Tick h refl; form = record { read = h; is = refl } }
command_formed names words (Propose slot value) h = record { verb = verbs.Propose; first = told words _ (codes "propose") verbs.Propose h.3 refl; form = record { slot = slot; bytes = value; digits = h.0; small = h.1; spelled = h.2; read = h.3; is = refl } }
command_formed names words (Round slot) h = record { verb = verbs.Round; first = told words _ (codes "round") verbs.Round h.1 refl; form = record { slot = slot; small = h.0; read = h.1; is = refl } }
command_formed names words (Timer slot) h = elim h.1 [
  | inl one ↦ record { verb = verbs.Timer; first = told words _ (codes "timer") verbs.Timer one refl; form = record { slot = slot; small = h.0; read = one; is = refl } }
  | inr other ↦ record { verb = verbs.Ballot; first = told words _ (codes "ballot") verbs.Ballot other refl; form = record { slot = slot; small = h.0; read = other; is = refl } }
]
command_formed names words (Ask link slot) h = record { verb = verbs.Ask; first = told words _ (codes "ask") verbs.Ask h.2 refl; form = record { link = link; slot = slot; has = h.0; small = h.1; read = h.2; is = refl } }

event_formed : (names words : List (List ℕ)) (x : Happening) → SaysEvent names words x → Formed names words (Event x)
event_formed names words (Open link) h = record { verb = verbs.Open; first = told words _ (codes "open") verbs.Open h.1 refl; form = record { link = link; has = h.0; read = h.1; is = refl } }
event_formed names words (Send link bytes) h = record { verb = verbs.Recv; first = told words _ (codes "recv") verbs.Recv h.3 refl; form = record { link = link; bytes = bytes; digits = h.0; has = h.1; spelled = h.2; read = h.3; is = refl } }
event_formed names words (Close link) h = record { verb = verbs.Close; first = told words _ (codes "close") verbs.Close h.1 refl; form = record { link = link; has = h.0; read = h.1; is = refl } }
event_formed names words (Local command) h = command_formed names words command h
event_formed names words (ReaderTake link) h = absurd h
event_formed names words (ReaderPut link) h = absurd h
event_formed names words PendTake h = absurd h
event_formed names words PendPut h = absurd h
event_formed names words SlotTake h = absurd h
event_formed names words SlotPut h = absurd h
event_formed names words ApplyTake h = absurd h
event_formed names words (Drain link) h = absurd h

formed : (names words : List (List ℕ)) (a : Asked) → SaysInWords names words a → Formed names words a
formed names words (Event x) h = event_formed names words x h
formed names words (Again link) h = record { verb = verbs.Again; first = told words _ (codes "again") verbs.Again h.1 refl; form = record { link = link; has = h.0; read = h.1; is = refl } }
formed names words State h = record { verb = verbs.State; first = told words _ (codes "state") verbs.State h refl; form = record { read = h; is = refl } }
formed names words Report h = record { verb = verbs.Report; first = told words _ (codes "report") verbs.Report h refl; form = record { read = h; is = refl } }
formed names words Stand h = record { verb = verbs.Stand; first = told words _ (codes "stand") verbs.Stand h refl; form = record { read = h; is = refl } }
formed names words (Applied slot) h = record { verb = verbs.Applied; first = told words _ (codes "applied") verbs.Applied h.1 refl; form = record { slot = slot; small = h.0; read = h.1; is = refl } }
formed names words Nothing h = absurd h

-- ---- a form is filled in one way

second : (a b c d : List ℕ) (x y : List (List ℕ)) → a ∷ b ∷ x ≡ c ∷ d ∷ y → b ≡ d
second a b c d x y e = cc

third : (a b c d e f : List ℕ) (x y : List (List ℕ)) → a ∷ b ∷ c ∷ x ≡ d ∷ e ∷ f ∷ y → c ≡ f
third a b c d e f x y h = cc

of_some : (x y : List ℕ) → Some x ≡ Some y → x ≡ y
of_some x y e = cc

same_link : (names : List (List ℕ)) (l m : ℕ) → AreNamedApart names → HasLink names l → HasLink names m → name_of names l ≡ name_of names m → l ≡ m
same_link names l m apart h k e = apart l m (name_of names l) (slice_get-get_or names l [] h.0) (slice_get-get_or names m [] k.0 ∙ ap (λ (name : List ℕ). Some name) (sym e))

same_slot : (s t : Slot) → IsSlot s → IsSlot t → decimal s.0 ≡ decimal t.0 → s ≡ t
same_slot s t h k e = let number : s.0 ≡ t.0 = decimal_injective s.0 t.0 h k e in λ i. record { 0 = number i }

same_bytes : (d e x y : List ℕ) → d ≡ e → hex_bytes d ≡ Some x → hex_bytes e ≡ Some y → x ≡ y
same_bytes d e x y is h k = of_some x y (sym h ∙ ap hex_bytes is ∙ k)

one_link : (names : List (List ℕ)) (word : List ℕ) (make : ℕ → Asked) (words : List (List ℕ)) (a b : Asked) → AreNamedApart names → OfLink names word make words a → OfLink names word make words b → a ≡ b
one_link names word make words a b apart h k =
    let link : h.link ≡ k.link = same_link names h.link k.link apart h.has k.has (second _ _ _ _ _ _ (sym h.read ∙ k.read)) in
    h.is ∙ ap make link ∙ sym k.is

one_slot : (word : List ℕ) (make : Slot → Asked) (words : List (List ℕ)) (a b : Asked) → OfSlot word make words a → OfSlot word make words b → a ≡ b
one_slot word make words a b h k =
    let slot : h.slot ≡ k.slot = same_slot h.slot k.slot h.small k.small (second _ _ _ _ _ _ (sym h.read ∙ k.read)) in
    h.is ∙ ap make slot ∙ sym k.is

one_link_and_slot : (names : List (List ℕ)) (word : List ℕ) (make : ℕ → Slot → Asked) (words : List (List ℕ)) (a b : Asked) → AreNamedApart names → OfLinkAndSlot names word make words a → OfLinkAndSlot names word make words b → a ≡ b
one_link_and_slot names word make words a b apart h k =
    let link : h.link ≡ k.link = same_link names h.link k.link apart h.has k.has (second _ _ _ _ _ _ (sym h.read ∙ k.read)) in
    let slot : h.slot ≡ k.slot = same_slot h.slot k.slot h.small k.small (third _ _ _ _ _ _ _ _ (sym h.read ∙ k.read)) in
    h.is ∙ (λ i. make (link i) (slot i)) ∙ sym k.is

one_link_and_bytes : (names : List (List ℕ)) (word : List ℕ) (make : ℕ → List ℕ → Asked) (words : List (List ℕ)) (a b : Asked) → AreNamedApart names → OfLinkAndBytes names word make words a → OfLinkAndBytes names word make words b → a ≡ b
one_link_and_bytes names word make words a b apart h k =
    let link : h.link ≡ k.link = same_link names h.link k.link apart h.has k.has (second _ _ _ _ _ _ (sym h.read ∙ k.read)) in
    let bytes : h.bytes ≡ k.bytes = same_bytes h.digits k.digits h.bytes k.bytes (third _ _ _ _ _ _ _ _ (sym h.read ∙ k.read)) h.spelled k.spelled in
    h.is ∙ (λ i. make (link i) (bytes i)) ∙ sym k.is

one_slot_and_bytes : (word : List ℕ) (make : Slot → List ℕ → Asked) (words : List (List ℕ)) (a b : Asked) → OfSlotAndBytes word make words a → OfSlotAndBytes word make words b → a ≡ b
one_slot_and_bytes word make words a b h k =
    let slot : h.slot ≡ k.slot = same_slot h.slot k.slot h.small k.small (second _ _ _ _ _ _ (sym h.read ∙ k.read)) in
    let bytes : h.bytes ≡ k.bytes = same_bytes h.digits k.digits h.bytes k.bytes (third _ _ _ _ _ _ _ _ (sym h.read ∙ k.read)) h.spelled k.spelled in
    h.is ∙ (λ i. make (slot i) (bytes i)) ∙ sym k.is

one_of : (names : List (List ℕ)) (verb : Verb) (words : List (List ℕ)) (a b : Asked) → AreNamedApart names → IsOf names verb words a → IsOf names verb words b → a ≡ b
one_of names verbs.Open words a b apart h k = one_link names (codes "open") (λ l. Event (Open l)) words a b apart h k
one_of names verbs.Close words a b apart h k = one_link names (codes "close") (λ l. Event (Close l)) words a b apart h k
one_of names verbs.Recv words a b apart h k = one_link_and_bytes names (codes "recv") (λ l bytes. Event (Send l bytes)) words a b apart h k
one_of names verbs.Propose words a b apart h k = one_slot_and_bytes (codes "propose") (λ slot value. Event (Local (Propose slot value))) words a b h k
one_of names verbs.Round words a b apart h k = one_slot (codes "round") (λ slot. Event (Local (Round slot))) words a b h k
one_of names verbs.Timer words a b apart h k = one_slot (codes "timer") (λ slot. Event (Local (Timer slot))) words a b h k
one_of names verbs.Ballot words a b apart h k = one_slot (codes "ballot") (λ slot. Event (Local (Timer slot))) words a b h k
one_of names verbs.Tick words a b apart h k = h.is ∙ sym k.is
one_of names verbs.Ask words a b apart h k = one_link_and_slot names (codes "ask") (λ l slot. Event (Local (Ask l slot))) words a b apart h k
one_of names verbs.Again words a b apart h k = one_link names (codes "again") (λ l. Again l) words a b apart h k
one_of names verbs.State words a b apart h k = h.is ∙ sym k.is
one_of names verbs.Report words a b apart h k = h.is ∙ sym k.is
one_of names verbs.Stand words a b apart h k = h.is ∙ sym k.is
one_of names verbs.Applied words a b apart h k = one_slot (codes "applied") (λ slot. Applied slot) words a b h k

-- ---- so a line says one thing

of_verb : (x y : Verb) → Some x ≡ Some y → x ≡ y
of_verb x y e = cc

words_say_one : (names words : List (List ℕ)) (a b : Asked) → AreNamedApart names → SaysInWords names words a → SaysInWords names words b → a ≡ b
words_say_one names words a b apart h k =
    let one = formed names words a h in
    let other = formed names words b k in
    let verb : one.verb ≡ other.verb = of_verb one.verb other.verb (sym one.first ∙ other.first) in
    one_of names one.verb words a b apart one.form (subst (λ (v : Verb). IsOf names v words b) (sym verb) other.form)

line_says_one : (skipped : Bool) (names : List (List ℕ)) (line : List ℕ) (a b : Asked) → AreNamedApart names → SaysBy skipped names line a → SaysBy skipped names line b → a ≡ b
line_says_one true names line a b apart h k = h ∙ sym k
line_says_one false names line a b apart h k = words_say_one names (parts_of line) a b apart h k

pub lines_say_one_thing : LinesSayOneThing
lines_say_one_thing = λ names apart line one other h k. line_says_one (is_skipped line) names line one other apart h.1 k.1
