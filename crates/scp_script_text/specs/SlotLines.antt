-- One line of a slot's script, with what it carries in hex digits (this project's profile).
use Rattle.std.specs.Prelude.{◌≡◌, ◌⊎◌, ℕ, ◌+◌, Bool, true, false, ◌&&◌, List, [], ◌∷◌, length, drop, Option, Some, None, Ok, if◌then◌else◌, codes, nat_eq, nat_lt}
use Rattle.scp_text.specs.scp_xdr.specs.Kind.{Spells}
use Rattle.scp_text.specs.scp_quorum.specs.QuorumTree.{QuorumTree}
use Rattle.scp_text.specs.scp_quorum.specs.QuorumKind.{set_kind, set_value}
use Rattle.scp_text.specs.scp_envelope.specs.Kinds.{envelope_kind, envelope_value}
use Rattle.scp_text.specs.scp_envelope.specs.declared.statement.Envelope.{Envelope as AnyEnvelope}
use Rattle.scp_text.specs.scp_wire.specs.declared.message.Message.{Message}
use Rattle.scp_text.specs.scp_wire.specs.declared.message.Message.TheVariants.{Envelope, GetSet, Set, NoSet, GetRecord, Record, Records}
use Rattle.scp_text.specs.Pieces.{same}
use Rattle.scp_text.specs.Values.{value_in}
use Rattle.scp_text.specs.Sets.{set_in}
use Rattle.scp_text.specs.Messages.{message_in, words_of, IsRefusedMessage}
use Rattle.scp_text.specs.scp_device.specs.declared.bad.BadWord.{BadWord}
use Rattle.scp_text.specs.scp_device.specs.declared.bad.WordFault.{WordFault}
use Rattle.scp_text.specs.scp_device.specs.declared.bad.WordFault.TheVariants.{NoMemory, Bad}
use Rattle.scp_text.specs.scp_device.specs.declared.bad.Expected.{Expected}
use Rattle.scp_text.specs.scp_device.specs.declared.bad.Expected.TheVariants.{AMessage, AValue, ASet, AnEnvelope}
use Rattle.scp_script_text.specs.Lines.{before, bytes_in, digits_of}
use Rattle.scp_script_text.specs.declared.slot.SlotLine.{SlotLine}
use Rattle.scp_script_text.specs.declared.slot.SlotLine.TheVariants.{Machine, Proposal, Hears, Other}

-- what is expected where the message must be an envelope: an envelope in place of a message
abbrev pub wanted : Expected → Expected
wanted AMessage = AnEnvelope
wanted expected = expected

-- ---- which lines carry something

-- all words but the last
abbrev pub but_last : List (List ℕ) → List (List ℕ)
but_last [] = []
but_last (word ∷ []) = []
but_last (word ∷ next ∷ words) = word ∷ but_last (next ∷ words)

-- the last word, or no bytes if there is no word
abbrev pub last_of : List (List ℕ) → List ℕ
last_of [] = []
last_of (word ∷ []) = word
last_of (word ∷ next ∷ words) = last_of (next ∷ words)

-- what a line carries, by its first word and by how many words there are between it and the last
abbrev pub kind_by : List ℕ → ℕ → SlotLine
kind_by verb more =
    if same verb (codes "propose") && nat_eq more 0 then Proposal
    else (if same verb (codes "slot") && nat_eq more 2 then Machine
    else (if same verb (codes "envelope") && nat_lt 0 more then Hears else Other))

-- what a line carries, by all its words but the last: `slot ME SLOT SET`, `propose VALUE`, `envelope ENVELOPE SET`
abbrev pub kind_of : List (List ℕ) → SlotLine
kind_of [] = Other
kind_of (verb ∷ more) = kind_by verb (length more)

-- ---- words in digits

-- the word is hex digits, or a dash for no bytes
abbrev pub IsDigits : List ℕ → Type 0
IsDigits word = (bytes : List ℕ) × (bytes_in word ≡ Some bytes)

-- the word isn't hex digits or a dash, so it is refused at this place; or memory ran out
abbrev pub IsRefusedAt : List ℕ → ℕ → Expected → WordFault → Type 0
IsRefusedAt word place expected NoMemory = Unit {0}
IsRefusedAt word place expected (Bad refusal) = (bytes_in word ≡ None) × (refusal ≡ record { word = place; expected = expected })

-- the quorum set that the word says, in hex digits; if it says none, it must be hex digits already and stays
abbrev pub IsSetWordBy : Option QuorumTree → List ℕ → List ℕ → Type 0
IsSetWordBy (Some set) word out = (bytes : List ℕ) × Spells set_kind bytes (set_value set) × (out ≡ digits_of bytes)
IsSetWordBy None word out = IsDigits word × (out ≡ word)

-- the same, by the word itself
abbrev pub IsSetWord : List ℕ → List ℕ → Type 0
IsSetWord word out = IsSetWordBy (set_in word) word out

-- out of memory, or the word says no quorum set and isn't hex digits, so it is refused at this place
abbrev pub IsNoSet : List ℕ → ℕ → WordFault → Type 0
IsNoSet word place NoMemory = Unit {0}
IsNoSet word place (Bad refusal) = (set_in word ≡ None) × IsRefusedAt word place ASet (Bad refusal)

-- the value that the word says, in hex digits; if it says none, it must be hex digits already and stays
abbrev pub IsValueWordBy : Option (List ℕ) → List ℕ → List ℕ → Type 0
IsValueWordBy (Some bytes) word out = out ≡ digits_of bytes
IsValueWordBy None word out = IsDigits word × (out ≡ word)

-- the same, by the word itself
abbrev pub IsValueWord : List ℕ → List ℕ → Type 0
IsValueWord word out = IsValueWordBy (value_in word) word out

-- out of memory, or the word says no value and isn't hex digits, so it is refused at this place
abbrev pub IsNoValue : List ℕ → ℕ → WordFault → Type 0
IsNoValue word place NoMemory = Unit {0}
IsNoValue word place (Bad refusal) = (value_in word ≡ None) × IsRefusedAt word place AValue (Bad refusal)

-- the hex digits of an envelope's bytes
abbrev pub IsEnvelopeDigits : AnyEnvelope → List ℕ → Type 0
IsEnvelopeDigits envelope out = (bytes : List ℕ) × Spells envelope_kind bytes (envelope_value envelope) × (out ≡ digits_of bytes)

-- the message is an envelope, and these are its hex digits
abbrev pub IsDigitsOf : Message → List ℕ → Type 0
IsDigitsOf (Envelope envelope) out = IsEnvelopeDigits envelope.value out
IsDigitsOf (GetSet hash) out = ⊥
IsDigitsOf (Set set) out = ⊥
IsDigitsOf (NoSet hash) out = ⊥
IsDigitsOf (GetRecord slot) out = ⊥
IsDigitsOf (Record slot value) out = ⊥
IsDigitsOf (Records first values) out = ⊥

-- the envelope that the words say, in hex digits
abbrev pub IsMessageWord : List (List ℕ) → List ℕ → Type 0
IsMessageWord words out = (message : Message) × (message_in words ≡ Ok message) × IsDigitsOf message out

-- the message is an envelope
abbrev pub is_envelope : Message → Bool
is_envelope (Envelope envelope) = true
is_envelope (GetSet hash) = false
is_envelope (Set set) = false
is_envelope (NoSet hash) = false
is_envelope (GetRecord slot) = false
is_envelope (Record slot value) = false
is_envelope (Records first values) = false

-- Out of memory, or the words after a line's first say no message or one that is no envelope. The word that is refused is reported by its
-- place in the line.
abbrev pub IsNoMessage : List (List ℕ) → WordFault → Type 0
IsNoMessage words NoMemory = Unit {0}
IsNoMessage words (Bad refusal) =
    ((r : BadWord) × IsRefusedMessage words (Bad r) × (refusal ≡ record { word = r.word + 1; expected = wanted r.expected }))
    ⊎ ((message : Message) × (message_in words ≡ Ok message) × (is_envelope message ≡ false) × (refusal ≡ record { word = 2; expected = AnEnvelope }))

-- an envelope in hex digits: a single word must be hex digits already and stays, else the envelope that the words say
abbrev pub IsEnvelopeWord : List (List ℕ) → List ℕ → Type 0
IsEnvelopeWord (word ∷ []) out = IsDigits word × (out ≡ word)
IsEnvelopeWord [] out = IsMessageWord [] out
IsEnvelopeWord (word ∷ next ∷ words) out = IsMessageWord (word ∷ next ∷ words) out

-- out of memory, or the words after a line's first are no envelope; the word that is refused is reported by its place in the line
abbrev pub IsNoEnvelope : List (List ℕ) → WordFault → Type 0
IsNoEnvelope (word ∷ []) error = IsRefusedAt word 2 AnEnvelope error
IsNoEnvelope [] error = IsNoMessage [] error
IsNoEnvelope (word ∷ next ∷ words) error = IsNoMessage (word ∷ next ∷ words) error

-- ---- lines in digits

-- the line of an envelope and a quorum set, both in hex digits
abbrev pub IsHeardLine : List (List ℕ) → List ℕ → List ℕ → Type 0
IsHeardLine front last out =
    (envelope set : List ℕ) × IsEnvelopeWord (drop 1 front) envelope × IsSetWord last set × (out ≡ before (codes "envelope" ∷ envelope ∷ []) set)

-- the line in hex digits, by what it carries, its words but the last, and its last word
abbrev pub IsHexWords : SlotLine → List (List ℕ) → List ℕ → List ℕ → List ℕ → Type 0
IsHexWords Machine front last line out = (set : List ℕ) × IsSetWord last set × (out ≡ before front set)
IsHexWords Proposal front last line out = (value : List ℕ) × IsValueWord last value × (out ≡ before front value)
IsHexWords Hears front last line out = IsHeardLine front last out
IsHexWords Other front last line out = out ≡ line

-- the line in hex digits; a line that carries nothing stays as it is
abbrev pub IsHexLine : List ℕ → List ℕ → Type 0
IsHexLine line out = IsHexWords (kind_of (but_last (words_of line))) (but_last (words_of line)) (last_of (words_of line)) line out

-- the envelope is refused, or it is good and the quorum set after it is refused
abbrev pub IsNoHeardLine : List (List ℕ) → List ℕ → WordFault → Type 0
IsNoHeardLine front last error = IsNoEnvelope (drop 1 front) error ⊎ ((envelope : List ℕ) × IsEnvelopeWord (drop 1 front) envelope × IsNoSet last (length front + 1) error)

-- why a line can't be in hex digits, by what it carries; a line that carries nothing fails only when out of memory
abbrev pub IsNoHexWords : SlotLine → List (List ℕ) → List ℕ → WordFault → Type 0
IsNoHexWords kind front last NoMemory = Unit {0}
IsNoHexWords Machine front last (Bad refusal) = IsNoSet last (length front + 1) (Bad refusal)
IsNoHexWords Proposal front last (Bad refusal) = IsNoValue last (length front + 1) (Bad refusal)
IsNoHexWords Hears front last (Bad refusal) = IsNoHeardLine front last (Bad refusal)
IsNoHexWords Other front last (Bad refusal) = ⊥

-- why a line can't be in hex digits: out of memory, or the first word that is refused
abbrev pub IsNoHexLine : List ℕ → WordFault → Type 0
IsNoHexLine line error = IsNoHexWords (kind_of (but_last (words_of line))) (but_last (words_of line)) (last_of (words_of line)) error
