-- What waits for one peer, and how it changes (this project's profile).
-- No public clause reaches this definition: nothing here need be believed.
use Rattle.std.specs.Prelude.{Bool, true, false}
pub use Rattle.circular_buffer.specs.Buffer.{keep_last}
use Rattle.scp_wire.specs.declared.message.Message.{Message}
use Rattle.scp_wire.specs.declared.message.Message.TheVariants.{Envelope, GetSet, Set, NoSet, GetRecord, Record, Records}

-- whether the message is an envelope; all others are requests and answers
abbrev pub is_statement : Message → Bool
is_statement (Envelope envelope) = true
is_statement (GetSet hash) = false
is_statement (Set set) = false
is_statement (NoSet hash) = false
is_statement (GetRecord slot) = false
is_statement (Record slot value) = false
is_statement (Records first values) = false
