-- A line with a bad word says nothing, and its first bad word stands among its first four.
use Rattle.std.proofs.Common.{◌≡◌, ◌⊎◌, inl, inr, ◌<◌, ◌+◌, ℕ, suc, zero, List, [], ◌∷◌, length, take, Option, Some, None, refl, ap, subst, arith}
use Rattle.std.specs.Prelude.{is_some, Result, Ok, Err}
use Rattle.std.specs.Fmt.{decimal}
use Rattle.scp_core.specs.scp_types.specs.declared.names.Slot.{Slot}
use Rattle.scp_core.specs.scp_wire.specs.declared.link.Command.{Command}
use Rattle.scp_core.specs.scp_wire.specs.declared.link.Command.TheVariants.{Tick, Propose, Round, Timer, Ask}
use Rattle.scp_core.specs.declared.event.Event.{Event as Happening}
use Rattle.scp_core.specs.declared.event.Event.TheVariants.{Open, Send, Close, Local, ReaderTake, ReaderPut, PendTake, PendPut, SlotTake, SlotPut, ApplyTake, Drain}
use Rattle.scp_script.specs.Words.{hex_bytes}
use Rattle.scp_live_lines.specs.declared.asked.Asked.{Asked}
use Rattle.scp_live_lines.specs.declared.asked.Asked.TheVariants.{Event, Again, State, Report, Stand, Applied, Nothing}
use Rattle.scp_script.specs.scp_device.specs.declared.bad.Expected.{Expected}
use Rattle.scp_script.specs.scp_device.specs.declared.bad.Expected.TheVariants.{APeer, ASlot, Digits}
use Rattle.scp_script.specs.scp_device.specs.declared.bad.BadWord.{BadWord}
use Rattle.scp_script.specs.scp_device.specs.declared.bad.WordFault.{WordFault}
use Rattle.scp_script.specs.scp_device.specs.declared.bad.WordFault.TheVariants.{Bad, NoMemory}
use Rattle.scp_live_lines.specs.Results.{IfBad}
use Rattle.scp_live_lines.specs.declared.verb.Verb.{Verb}
use Rattle.scp_live_lines.specs.declared.verb.Verb.TheVariants as verbs
use Rattle.scp_live_lines.specs.Verbs.{verb_in, form_of}
use Rattle.scp_live_lines.specs.Says.{HasLink, IsSlot, name_of, SaysCommand, SaysEvent, SaysInWords}
use Rattle.scp_live_lines.specs.Bad.{IsPeer, IsSlotWord, IsDigits, Fits, IsWrongBehind, IsWrongBy, IsWrongIn}

-- ---- words that are as the form says

fits_one : (names : List (List ℕ)) (k : Expected) (w : List ℕ) (place : ℕ) (r : BadWord) → Fits names k w → ¬ (IsWrongBehind names (k ∷ []) (w ∷ []) place r)
fits_one names k w place r f = λ h. elim h [ inl here ↦ here.0 f | inr more ↦ more.1 ]

fits_two : (names : List (List ℕ)) (k l : Expected) (w v : List ℕ) (place : ℕ) (r : BadWord) → Fits names k w → Fits names l v → ¬ (IsWrongBehind names (k ∷ l ∷ []) (w ∷ v ∷ []) place r)
fits_two names k l w v place r f g = λ h. elim h [ inl here ↦ here.0 f | inr more ↦ fits_one names l v (place + 1) r g more.1 ]

is_peer : (names : List (List ℕ)) (link : ℕ) → HasLink names link → IsPeer names (name_of names link)
is_peer names link h = (link, (h, refl))

is_slot : (slot : Slot) → IsSlot slot → IsSlotWord (decimal slot.0)
is_slot slot h = (slot.0, h, refl)

is_digits : (digits bytes : List ℕ) → hex_bytes digits ≡ Some bytes → IsDigits digits
is_digits digits bytes e = ap is_some e

-- a line of these words, of which none is bad
module _ (names words : List (List ℕ)) (r : BadWord) (wrong : IsWrongIn names words r) where
  as_said : (said : List (List ℕ)) → words ≡ said → IsWrongIn names said r
  as_said said e = subst (λ (ws : List (List ℕ)). IsWrongIn names ws r) e wrong

  command_wrong : (c : Command) → ¬ (SaysCommand names words c)
  command_wrong Tick = λ h. as_said _ h
  command_wrong (Propose slot value) = λ h. fits_two names ASlot Digits _ h.0 2 r (is_slot slot h.1) (is_digits h.0 value h.2) (as_said _ h.3)
  command_wrong (Round slot) = λ h. fits_one names ASlot _ 2 r (is_slot slot h.0) (as_said _ h.1)
  command_wrong (Timer slot) = λ h. elim h.1 [ inl one ↦ fits_one names ASlot _ 2 r (is_slot slot h.0) (as_said _ one) | inr other ↦ fits_one names ASlot _ 2 r (is_slot slot h.0) (as_said _ other) ]
  command_wrong (Ask link slot) = λ h. fits_two names APeer ASlot _ _ 2 r (is_peer names link h.0) (is_slot slot h.1) (as_said _ h.2)

  event_wrong : (x : Happening) → ¬ (SaysEvent names words x)
  event_wrong (Open link) = λ h. fits_one names APeer _ 2 r (is_peer names link h.0) (as_said _ h.1)
  event_wrong (Send link bytes) = λ h. fits_two names APeer Digits _ h.0 2 r (is_peer names link h.1) (is_digits h.0 bytes h.2) (as_said _ h.3)
  event_wrong (Close link) = λ h. fits_one names APeer _ 2 r (is_peer names link h.0) (as_said _ h.1)
  event_wrong (Local command) = command_wrong command
  event_wrong (ReaderTake link) = λ h. h
  event_wrong (ReaderPut link) = λ h. h
  event_wrong PendTake = λ h. h
  event_wrong PendPut = λ h. h
  event_wrong SlotTake = λ h. h
  event_wrong SlotPut = λ h. h
  event_wrong ApplyTake = λ h. h
  event_wrong (Drain link) = λ h. h

  -- what has a bad word says nothing
  pub wrong_says_nothing : (a : Asked) → ¬ (SaysInWords names words a)
  wrong_says_nothing (Event x) = event_wrong x
  wrong_says_nothing (Again link) = λ h. fits_one names APeer _ 2 r (is_peer names link h.0) (as_said _ h.1)
  wrong_says_nothing State = λ h. as_said _ h
  wrong_says_nothing Report = λ h. as_said _ h
  wrong_says_nothing Stand = λ h. as_said _ h
  wrong_says_nothing (Applied slot) = λ h. fits_one names ASlot _ 2 r (is_slot slot h.0) (as_said _ h.1)
  wrong_says_nothing Nothing = λ h. h

-- ---- the first four words

behind_more : (names : List (List ℕ)) (form : List Expected) (words : List (List ℕ)) (n place : ℕ) (r : BadWord) → length form < n → IsWrongBehind names form (take n words) place r → IsWrongBehind names form words place r
behind_more names [] [] zero place r few h = absurd (omega arith)
behind_more names [] [] (suc n) place r few h = h
behind_more names [] (w ∷ ws) zero place r few h = absurd (omega arith)
behind_more names [] (w ∷ ws) (suc n) place r few h = h
behind_more names (k ∷ ks) [] zero place r few h = absurd (omega arith)
behind_more names (k ∷ ks) [] (suc n) place r few h = h
behind_more names (k ∷ ks) (w ∷ ws) zero place r few h = absurd (omega arith)
behind_more names (k ∷ ks) (w ∷ ws) (suc n) place r few h = elim h [ inl here ↦ inl here | inr more ↦ inr (more.0, behind_more names ks ws n (place + 1) r (omega arith) more.1) ]

form_is_short : (verb : Verb) → length (form_of verb) < 3
form_is_short verbs.Open = omega arith
form_is_short verbs.Close = omega arith
form_is_short verbs.Recv = omega arith
form_is_short verbs.Propose = omega arith
form_is_short verbs.Round = omega arith
form_is_short verbs.Timer = omega arith
form_is_short verbs.Ballot = omega arith
form_is_short verbs.Tick = omega arith
form_is_short verbs.Ask = omega arith
form_is_short verbs.Again = omega arith
form_is_short verbs.State = omega arith
form_is_short verbs.Report = omega arith
form_is_short verbs.Stand = omega arith
form_is_short verbs.Applied = omega arith

wrong_by : (names words : List (List ℕ)) (verb : Option Verb) (r : BadWord) → IsWrongBy names verb (take 3 words) r → IsWrongBy names verb words r
wrong_by names words None r h = h
wrong_by names words (Some verb) r h = behind_more names (form_of verb) words 3 2 r (form_is_short verb) h

pub wrong_whole : (names words : List (List ℕ)) (r : BadWord) → IsWrongIn names (take 4 words) r → IsWrongIn names words r
wrong_whole names [] r h = h
wrong_whole names (w ∷ ws) r h = wrong_by names ws (verb_in w) r h

pub either_wrong : {A : Type 0} (names words parts : List (List ℕ)) (r : Result A WordFault) → (words ≡ parts) ⊎ (words ≡ take 4 parts) → IfBad r (IsWrongIn names words) → IfBad r (IsWrongIn names parts)
either_wrong names words parts (Ok a) e h = tt
either_wrong names words parts (Err NoMemory) e h = tt
either_wrong names words parts (Err (Bad r)) (inl e) h = subst (λ (ws : List (List ℕ)). IsWrongIn names ws r) e h
either_wrong names words parts (Err (Bad r)) (inr e) h = wrong_whole names parts r (subst (λ (ws : List (List ℕ)). IsWrongIn names ws r) e h)
