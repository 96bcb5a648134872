-- Which messages are numbered on their connection.
use Rattle.std.specs.Prelude.{Bool, true, false, Option, Some, None}
use Rattle.scp_wire.specs.declared.message.Message.{Message}
use Rattle.scp_wire.specs.declared.message.Message.TheVariants.{Envelope, GetSet, Set, NoSet, GetRecord, Record, Records}

-- An envelope, a request for a record and a record are carried. A side message, which asks for a quorum set or answers,
-- isn't; nor is a batch, since it is read as its records, which are.
abbrev pub is_carried : Message → Bool
is_carried (Envelope envelope) = true
is_carried (GetSet hash) = false
is_carried (Set set) = false
is_carried (NoSet hash) = false
is_carried (GetRecord slot) = true
is_carried (Record slot value) = true
is_carried (Records first values) = false

-- what was read is a side message
abbrev pub is_side : Option Message → Bool
is_side None = false
is_side (Some (Envelope envelope)) = false
is_side (Some (GetSet hash)) = true
is_side (Some (Set set)) = true
is_side (Some (NoSet hash)) = true
is_side (Some (GetRecord slot)) = false
is_side (Some (Record slot value)) = false
is_side (Some (Records first values)) = false
