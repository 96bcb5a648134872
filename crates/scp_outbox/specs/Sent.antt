-- What was sent to the peer of one link (this project's profile).
use Rattle.std.specs.Prelude.{◌≡◌, ℕ, true, List, Option, Some, None, All, AllPairs, Contains}
use Rattle.std.specs.List.{AllZip}
use Rattle.scp_wire.specs.scp_envelope.specs.declared.statement.Statement.{Statement}
use Rattle.scp_wire.specs.scp_envelope.specs.Newer.{IsNewer}
use Rattle.scp_wire.specs.Message.{message_value, SpellsMessage}
use Rattle.scp_wire.specs.declared.message.Message.{Message}
use Rattle.scp_wire.specs.declared.message.Message.TheVariants.{Envelope, GetSet, Set, NoSet, GetRecord, Record, Records}
use Rattle.scp_outbox.specs.Outbox.{are_alike}

-- the statement of an envelope; no other message has one
abbrev pub statement_of : Message → Option Statement
statement_of (Envelope envelope) = Some envelope.value.statement
statement_of (GetSet hash) = None
statement_of (Set set) = None
statement_of (NoSet hash) = None
statement_of (GetRecord slot) = None
statement_of (Record slot value) = None
statement_of (Records first values) = None

-- if the two statements are of one slot and kind, the second is newer
abbrev pub IsStep : Option Statement → Option Statement → Type 0
IsStep (Some s) (Some t) = are_alike s t ≡ true → IsNewer s t
IsStep (Some s) None = Unit {0}
IsStep None t = Unit {0}

-- each statement is newer than all of its slot and kind before it
abbrev pub AreNewer : List Message → Type 0
AreNewer messages = AllPairs (λ m n. IsStep (statement_of m) (statement_of n)) messages

-- what was sent encodes messages that were handed out, and each statement is newer than all of its slot and kind sent before
pub record AreSent (handed : List Message) (sent : List (List ℕ)) : Type 0 where
  pub messages : List Message
  pub spelt : AllZip (λ bytes m. SpellsMessage bytes (message_value m)) sent messages
  pub were_handed : All (Contains handed) messages
  pub newer : AreNewer messages
