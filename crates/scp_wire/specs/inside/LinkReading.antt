-- What a link's items are read as (this project's profile): carried messages, numbered 0, 1, 2, .. on each connection, a batch as its
-- records, side messages, and the connection's end. After a connection's end everything is discarded up to the next Opened.
-- No public clause reaches this definition: nothing here need be believed.
use Rattle.std.specs.Prelude.{◌+◌, ◌^◌, ◌≤◌, length}
use Rattle.scp_wire.specs.declared.message.Message.{Message}
use Rattle.scp_wire.specs.declared.message.Message.TheVariants.{Envelope, GetSet, Set, NoSet, GetRecord, Record, Records}

-- the last record of a batch names a slot
abbrev pub HasRoom : Message → Type 0
HasRoom (Envelope envelope) = Unit {0}
HasRoom (GetSet hash) = Unit {0}
HasRoom (Set set) = Unit {0}
HasRoom (NoSet hash) = Unit {0}
HasRoom (GetRecord slot) = Unit {0}
HasRoom (Record slot value) = Unit {0}
HasRoom (Records first values) = first.0 + length values ≤ 2 ^ 64
