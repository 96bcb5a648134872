-- The message that bytes encode.
use Rattle.std.specs.Prelude.{◌≡◌, ℕ, ◌<◌, ◌↔◌, List, Option, Some, None, Result, Ok, Err, slice_index}
use Rattle.scp_quorum.specs.scp_types.specs.declared.fault.Fault.{Fault}
use Rattle.scp_quorum.specs.scp_xdr.specs.Kind.{Values}
use Rattle.scp_wire.specs.declared.message.Message.{Message}
use Rattle.scp_wire.specs.Message.{message_kind, message_value, message_of, message_reading, SpellsMessage}

-- what was read, as a message
abbrev pub message_in : Result (Values message_kind) Fault → Option Message
message_in (Ok v) = Some (message_of v)
message_in (Err f) = None

-- the message that the bytes encode, or none if they have no reading
unfoldable pub reading_of : List ℕ → Option Message
reading_of bytes = message_in (message_reading bytes)

-- each number of the list is below 256
abbrev pub AreBytes : List ℕ → Type 0
AreBytes bytes = (i : ℕ) → slice_index bytes i < 256

-- bytes that encode a message have it as their reading, whatever numbers they are
abbrev pub SpellingIsRead : Type 0
SpellingIsRead = (bytes : List ℕ) (m : Message) → SpellsMessage bytes (message_value m) → reading_of bytes ≡ Some m

-- bytes have a message as their reading exactly where they encode it
abbrev pub ReadingIsSpelt : Type 0
ReadingIsSpelt = (bytes : List ℕ) (m : Message) → AreBytes bytes → (reading_of bytes ≡ Some m) ↔ SpellsMessage bytes (message_value m)
