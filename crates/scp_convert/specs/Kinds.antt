-- Messages and their parts alone: their bytes (RFC 4506) and their text (this project's profile).
use Rattle.std.specs.Prelude.{◌≡◌, ℕ, List, [], length, Some, Result, Ok, Err, nat_lt, ◌<◌, if◌then◌else◌}
use Rattle.scp_script_text.specs.scp_types.specs.declared.limits.TheConstants.{VALUE_LIMIT}
use Rattle.scp_script_text.specs.scp_types.specs.declared.fault.Fault.{Fault}
use Rattle.scp_script_text.specs.scp_types.specs.declared.fault.Fault.TheVariants.{TooLong}
use Rattle.scp_script_text.specs.scp_xdr.specs.Kind.{Values, Spells}
use Rattle.scp_script_text.specs.scp_xdr.specs.Reading.{reading_whole}
use Rattle.scp_script_text.specs.scp_quorum.specs.QuorumTree.{QuorumTree}
use Rattle.scp_script_text.specs.scp_quorum.specs.QuorumKind.{set_kind, set_value}
use Rattle.scp_script_text.specs.scp_envelope.specs.declared.statement.Statement.{Statement}
use Rattle.scp_script_text.specs.scp_envelope.specs.declared.statement.Envelope.{Envelope}
use Rattle.scp_script_text.specs.scp_envelope.specs.Kinds.{statement_kind, statement_value, envelope_kind, envelope_value}
use Rattle.scp_script_text.specs.scp_wire.specs.declared.message.Message.{Message}
use Rattle.scp_script_text.specs.scp_wire.specs.declared.message.Message.TheVariants.{Envelope as Sending}
use Rattle.scp_script_text.specs.scp_wire.specs.Message.{message_value, message_reading, SpellsMessage}
use Rattle.scp_script_text.specs.scp_text.specs.Values.{value_text, value_in}
use Rattle.scp_script_text.specs.scp_text.specs.Sets.{set_text, set_in}
use Rattle.scp_script_text.specs.scp_text.specs.Messages.{message_in, message_text, words_of}
use Rattle.scp_prompt.specs.declared.asked.Kind.{Kind}
use Rattle.scp_prompt.specs.declared.asked.Kind.TheVariants as kinds

-- the message with an envelope
abbrev pub sent : Envelope → Message
sent envelope = Sending (record { value = envelope })

-- a statement in an envelope without a signature
abbrev pub unsigned : Statement → Envelope
unsigned statement = record { statement = statement; signature = [] }

-- The text is that of the message, and says exactly this message.
pub record IsOnlyTextOf (message : Message) (text : List ℕ) : Type 0 where
  pub is : text ≡ message_text message
  pub says : message_in (words_of text) ≡ Ok message

-- The bytes encode one of this kind. The text is its text, and says exactly this one.
abbrev pub IsShown : Kind → List ℕ → List ℕ → Type 0
IsShown kinds.Message bytes text = (m : Message) × SpellsMessage bytes (message_value m) × IsOnlyTextOf m text
IsShown kinds.Envelope bytes text = (e : Envelope) × Spells envelope_kind bytes (envelope_value e) × IsOnlyTextOf (sent e) text
IsShown kinds.Statement bytes text = (s : Statement) × Spells statement_kind bytes (statement_value s) × IsOnlyTextOf (sent (unsigned s)) text
IsShown kinds.Set bytes text = (s : QuorumTree) × Spells set_kind bytes (set_value s) × (text ≡ set_text s) × (set_in text ≡ Some s)
IsShown kinds.Value bytes text = (text ≡ value_text bytes) × (value_in text ≡ Some bytes)

-- The text says one of this kind, and the bytes encode it.
abbrev pub Says : Kind → List ℕ → List ℕ → Type 0
Says kinds.Message text bytes = (m : Message) × (message_in (words_of text) ≡ Ok m) × SpellsMessage bytes (message_value m)
Says kinds.Envelope text bytes = (e : Envelope) × (message_in (words_of text) ≡ Ok (sent e)) × Spells envelope_kind bytes (envelope_value e)
Says kinds.Statement text bytes = (s : Statement) × (message_in (words_of text) ≡ Ok (sent (unsigned s))) × Spells statement_kind bytes (statement_value s)
Says kinds.Set text bytes = (s : QuorumTree) × (set_in text ≡ Some s) × Spells set_kind bytes (set_value s)
Says kinds.Value text bytes = value_in text ≡ Some bytes

-- ---- faults

-- the reading of an envelope; with the four bytes of its message's kind it is within the limit of messages
abbrev pub envelope_reading : List ℕ → Result (Values envelope_kind) Fault
envelope_reading bytes = if nat_lt 65532 (length bytes) then Err TooLong else reading_whole envelope_kind bytes

-- the reading of a statement; with an empty signature, of four bytes, it is within the limit of envelopes
abbrev pub statement_reading : List ℕ → Result (Values statement_kind) Fault
statement_reading bytes = if nat_lt 65528 (length bytes) then Err TooLong else reading_whole statement_kind bytes

-- the first fault of bytes that are none of this kind
abbrev pub IsFaulty : Kind → List ℕ → Fault → Type 0
IsFaulty kinds.Message bytes fault = message_reading bytes ≡ Err fault
IsFaulty kinds.Envelope bytes fault = envelope_reading bytes ≡ Err fault
IsFaulty kinds.Statement bytes fault = statement_reading bytes ≡ Err fault
IsFaulty kinds.Set bytes fault = reading_whole set_kind bytes ≡ Err fault
IsFaulty kinds.Value bytes fault = (fault ≡ TooLong) × (VALUE_LIMIT < length bytes)
