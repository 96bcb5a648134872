-- One line of a slot's script, with what it carries as text (this project's profile).
use Rattle.std.specs.Prelude.{◌≡◌, ◌≢◌, ◌⊎◌, ◌==◌, ℕ, Bool, true, false, List, [], ◌∷◌, drop, Option, Some, None, Err, codes}
use Rattle.std.specs.List.{list_any}
use Rattle.scp_text.specs.scp_types.specs.declared.fault.Fault.{Fault}
use Rattle.scp_text.specs.scp_xdr.specs.Kind.{Spells}
use Rattle.scp_text.specs.scp_xdr.specs.Reading.{reading_whole}
use Rattle.scp_text.specs.scp_envelope.specs.Kinds.{envelope_kind, envelope_value}
use Rattle.scp_text.specs.scp_envelope.specs.declared.statement.Envelope.{Envelope as AnyEnvelope}
use Rattle.scp_text.specs.scp_wire.specs.declared.message.Message.{Message}
use Rattle.scp_text.specs.scp_wire.specs.declared.message.Message.TheVariants.{Envelope}
use Rattle.scp_text.specs.scp_wire.specs.Message.{message_value, FitsMessage}
use Rattle.scp_text.specs.Messages.{message_text, words_of}
use Rattle.scp_script_text.specs.declared.nodes.Carried.{Carried}
use Rattle.scp_script_text.specs.declared.nodes.Carried.TheVariants.{Value, Set}
use Rattle.scp_script_text.specs.Lines.{before, bytes_in, IsShown, IsUnread}
use Rattle.scp_script_text.specs.declared.slot.SlotLine.{SlotLine}
use Rattle.scp_script_text.specs.declared.slot.SlotLine.TheVariants.{Machine, Proposal, Hears, Other}
use Rattle.scp_text.specs.scp_device.specs.declared.bad.BadWord.{BadWord}
use Rattle.scp_text.specs.scp_device.specs.declared.bad.WordFault.TheVariants.{Bad}
use Rattle.scp_script_text.specs.SlotLines.{but_last, last_of, kind_of, IsHexLine, IsNoHexLine}

-- ---- words as text

-- the value or the quorum set that a word's bytes encode, as text; a word that encodes none stays as it is
abbrev pub IsWordText : Carried → Option (List ℕ) → List ℕ → List ℕ → Type 0
IsWordText carried None word out = out ≡ word
IsWordText carried (Some bytes) word out = IsShown carried bytes out ⊎ ((fault : Fault) × IsUnread carried bytes fault × (out ≡ word))

-- the message of an envelope
abbrev pub message_with : AnyEnvelope → Message
message_with envelope = Envelope (record { value = envelope })

-- the bytes encode an envelope, and this is the text of its message
abbrev pub IsEnvelopeShown : List ℕ → List ℕ → Type 0
IsEnvelopeShown bytes text = (envelope : AnyEnvelope) × Spells envelope_kind bytes (envelope_value envelope) × (text ≡ message_text (message_with envelope))

-- the bytes encode no envelope, or one that fits in no message
abbrev pub IsUnreadEnvelope : List ℕ → Type 0
IsUnreadEnvelope bytes =
    ((fault : Fault) × (reading_whole envelope_kind bytes ≡ Err fault))
    ⊎ ((envelope : AnyEnvelope) × Spells envelope_kind bytes (envelope_value envelope) × (¬ (FitsMessage (message_value (message_with envelope)))))

-- the envelope of a word's bytes as text; a word that encodes none stays as it is
abbrev pub IsEnvelopeText : Option (List ℕ) → List ℕ → List ℕ → Type 0
IsEnvelopeText None word out = out ≡ word
IsEnvelopeText (Some bytes) word out = IsEnvelopeShown bytes out ⊎ (IsUnreadEnvelope bytes × (out ≡ word))

-- ---- lines as text

-- An envelope of one word, and a quorum set, as text. If the envelope has several words it is text already, and the line stays as it is.
abbrev pub IsHeard : List (List ℕ) → List ℕ → List ℕ → List ℕ → Type 0
IsHeard (word ∷ []) last line out =
    (envelope set : List ℕ) × IsEnvelopeText (bytes_in word) word envelope × IsWordText Set (bytes_in last) last set × (out ≡ before (codes "envelope" ∷ envelope ∷ []) set)
IsHeard [] last line out = out ≡ line
IsHeard (word ∷ next ∷ words) last line out = out ≡ line

-- the line as text, by what it carries, its words but the last, and its last word
abbrev pub IsTextWords : SlotLine → List (List ℕ) → List ℕ → List ℕ → List ℕ → Type 0
IsTextWords Machine front last line out = (set : List ℕ) × IsWordText Set (bytes_in last) last set × (out ≡ before front set)
IsTextWords Proposal front last line out = (value : List ℕ) × IsWordText Value (bytes_in last) last value × (out ≡ before front value)
IsTextWords Hears front last line out = IsHeard (drop 1 front) last line out
IsTextWords Other front last line out = out ≡ line

-- the line in which each word that encodes something is text
abbrev pub IsCandidate : List ℕ → List ℕ → Type 0
IsCandidate line out = IsTextWords (kind_of (but_last (words_of line))) (but_last (words_of line)) (last_of (words_of line)) line out

-- the text has a line feed
abbrev pub has_line_feed : List ℕ → Bool
has_line_feed text = list_any (λ byte. byte == 10) text

-- the text is one line, and in hex digits it is this line
abbrev pub IsTextFor : List ℕ → List ℕ → Type 0
IsTextFor line text = (has_line_feed text ≡ false) × IsHexLine text line

-- the text has a line feed, or in hex digits it is another line, or it can't be in hex digits
abbrev pub IsNoTextFor : List ℕ → List ℕ → Type 0
IsNoTextFor line text =
    (has_line_feed text ≡ true)
    ⊎ ((other : List ℕ) × IsHexLine text other × (other ≢ line))
    ⊎ ((refusal : BadWord) × IsNoHexLine text (Bad refusal))

-- the line as text, if that text in hex digits is the same line again, or else the line itself
abbrev pub IsTextLine : List ℕ → List ℕ → Type 0
IsTextLine line out =
    (IsCandidate line out × IsTextFor line out)
    ⊎ ((text : List ℕ) × IsCandidate line text × IsNoTextFor line text × (out ≡ line))
