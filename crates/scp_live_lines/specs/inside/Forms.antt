-- How the words of a line are read: by the first word, and then by those after it.
-- No public clause reaches these definitions, so nothing here needs to be believed.
use Rattle.std.specs.Prelude.{◌≡◌, ℕ, Bool, true, false, List, [], ◌∷◌, Option, Some, None, codes}
use Rattle.std.specs.Fmt.{decimal}
use Rattle.scp_core.specs.scp_types.specs.declared.names.Slot.{Slot}
use Rattle.scp_script.specs.Words.{hex_bytes}
use Rattle.scp_script.specs.scp_device.specs.declared.bad.BadWord.{BadWord}
use Rattle.scp_live_lines.specs.declared.verb.Verb.{Verb}
use Rattle.scp_live_lines.specs.declared.verb.Verb.TheVariants as verbs
use Rattle.scp_live_lines.specs.Says.{HasLink, IsSlot, name_of}

-- The first word of a line with this verb.
abbrev pub word_of : Verb → List ℕ
word_of verbs.Open = codes "open"
word_of verbs.Close = codes "close"
word_of verbs.Recv = codes "recv"
word_of verbs.Propose = codes "propose"
word_of verbs.Round = codes "round"
word_of verbs.Timer = codes "timer"
word_of verbs.Ballot = codes "ballot"
word_of verbs.Tick = codes "tick"
word_of verbs.Ask = codes "ask"
word_of verbs.Again = codes "again"
word_of verbs.State = codes "state"
word_of verbs.Report = codes "report"
word_of verbs.Stand = codes "stand"
word_of verbs.Applied = codes "applied"

-- A line with this verb carries bytes.
abbrev pub takes_bytes : Verb → Bool
takes_bytes verbs.Open = false
takes_bytes verbs.Close = false
takes_bytes verbs.Recv = true
takes_bytes verbs.Propose = true
takes_bytes verbs.Round = false
takes_bytes verbs.Timer = false
takes_bytes verbs.Ballot = false
takes_bytes verbs.Tick = false
takes_bytes verbs.Ask = false
takes_bytes verbs.Again = false
takes_bytes verbs.State = false
takes_bytes verbs.Report = false
takes_bytes verbs.Stand = false
takes_bytes verbs.Applied = false

-- The refusal to report: the one for the line's bytes if there is one, else the one that was found.
abbrev pub refusal_by : Option BadWord → BadWord → BadWord
refusal_by (Some bytes) found = bytes
refusal_by None found = found

-- The words are a peer and bytes in hexadecimal digits.
abbrev pub SaysPeerAndBytes : List (List ℕ) → List (List ℕ) → ℕ → List ℕ → Type 0
SaysPeerAndBytes names words link bytes = (digits : List ℕ) × HasLink names link × (hex_bytes digits ≡ Some bytes) × (words ≡ name_of names link ∷ digits ∷ [])

-- The words are a slot and a value in hexadecimal digits.
abbrev pub SaysSlotAndValue : List (List ℕ) → Slot → List ℕ → Type 0
SaysSlotAndValue words slot value = (digits : List ℕ) × IsSlot slot × (hex_bytes digits ≡ Some value) × (words ≡ decimal slot.0 ∷ digits ∷ [])
