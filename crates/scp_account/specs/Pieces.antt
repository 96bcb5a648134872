-- The pieces of an account (this project's profile). Numbers are whole, and bytes are lower-case hexadecimal digits.
use Rattle.std.specs.Prelude.{ℕ, List, Option, Some, None, codes}
use Rattle.hex.specs.Hex.{encode_lower}
use Rattle.serde_json.specs.Data.{Data, null, number, unsigned, string}
use Rattle.scp_line.specs.scp_types.specs.declared.names.NodeId.{NodeId}
use Rattle.scp_line.specs.scp_xdr.specs.Kind.{spelling}
use Rattle.scp_line.specs.scp_quorum.specs.QuorumTree.{QuorumTree}
use Rattle.scp_line.specs.scp_quorum.specs.QuorumKind.{set_spelling}
use Rattle.scp_line.specs.scp_quorum.specs.SharedSet.{SharedSet}
use Rattle.scp_line.specs.scp_envelope.specs.declared.statement.Envelope.{Envelope}
use Rattle.scp_line.specs.scp_envelope.specs.declared.statement.Pledges.{Pledges}
use Rattle.scp_line.specs.scp_envelope.specs.declared.statement.Pledges.TheVariants.{Prepare, Confirm, Externalize, Nominate}
use Rattle.scp_line.specs.scp_envelope.specs.Kinds.{envelope_kind, envelope_value}
use Rattle.scp_line.specs.scp_wire.specs.declared.message.Message.{Message}
use Rattle.scp_line.specs.scp_wire.specs.declared.message.Message.TheVariants as message
use Rattle.scp_line.specs.scp_wire.specs.Message.{message_kind, message_value}

-- A number.
abbrev pub count : ℕ → Data
count n = number (unsigned n)

-- Bytes as lower-case hexadecimal digits.
abbrev pub digits : List ℕ → Data
digits bytes = string (encode_lower bytes)

-- The id of a node.
abbrev pub id_json : NodeId → Data
id_json node = digits node.0

-- The bytes of a quorum set.
abbrev pub set_json : QuorumTree → Data
set_json set = digits (set_spelling set)

-- The bytes of the set that came with a message, or null if there is none.
abbrev pub beside_json : Option SharedSet → Data
beside_json None = null
beside_json (Some set) = set_json set.value

-- The bytes of a message.
abbrev pub message_json : Message → Data
message_json m = digits (spelling message_kind (message_value m))

-- The bytes of an envelope.
abbrev pub own_json : Envelope → Data
own_json own = digits (spelling envelope_kind (envelope_value own))

-- The kind of a statement.
abbrev pub pledges_kind : Pledges → List ℕ
pledges_kind (Prepare p) = codes "prepare"
pledges_kind (Confirm p) = codes "confirm"
pledges_kind (Externalize p) = codes "externalize"
pledges_kind (Nominate p) = codes "nominate"

-- The kind of a message; for an envelope, the kind of its statement.
abbrev pub kind_word : Message → List ℕ
kind_word (message.Envelope envelope) = pledges_kind envelope.value.statement.pledges
kind_word (message.GetSet hash) = codes "getset"
kind_word (message.Set set) = codes "set"
kind_word (message.NoSet hash) = codes "noset"
kind_word (message.GetRecord slot) = codes "getrecord"
kind_word (message.Record slot value) = codes "record"
kind_word (message.Records first values) = codes "records"
