-- Connections and messages in a trace (this project's profile). Messages are in the notation of scripts, with nodes and hashes shown by
-- their names.
use Rattle.std.specs.Prelude.{ℕ, List, ◌++◌, Option, Some, None, codes}
use Rattle.std.specs.Fmt.{decimal}
use Rattle.scp_words.specs.scp_types.specs.declared.names.ConnId.{ConnId}
use Rattle.scp_words.specs.scp_types.specs.declared.names.Hash.{Hash}
use Rattle.scp_words.specs.scp_types.specs.declared.names.Seq.{Seq}
use Rattle.scp_words.specs.scp_types.specs.declared.names.Slot.{Slot}
use Rattle.scp_words.specs.scp_quorum.specs.QuorumTree.{QuorumTree}
use Rattle.scp_words.specs.scp_envelope.specs.declared.statement.Envelope.{Envelope as Signed}
use Rattle.scp_words.specs.scp_wire.specs.declared.message.Message.{Message}
use Rattle.scp_words.specs.scp_wire.specs.declared.message.Message.TheVariants.{Envelope, GetSet, Set, NoSet, GetRecord, Record, Records}
use Rattle.scp_words.specs.scp_wire.specs.declared.side.SideMessage.{SideMessage}
use Rattle.scp_words.specs.scp_wire.specs.declared.side.SideMessage.TheVariants as side
use Rattle.scp_stand_slot.specs.scp_text.specs.Values.{value_text}
use Rattle.scp_stand_slot.specs.scp_text.specs.Messages.{values_text}
use Rattle.scp_words.specs.Words.{hex_word}
use Rattle.scp_stand_slot.specs.declared.names.Names.{Names}
use Rattle.scp_stand_slot.specs.Names.{node_name, set_named, name_of, statement_text}
use Rattle.scp_trace_text.specs.Words.{kind_word}

-- A connection: the node that sends on it, and its life, which says which opening of the link it is.
abbrev pub conn_text : Names → ConnId → List ℕ
conn_text names conn = node_name names conn.from ++ codes " " ++ decimal conn.life

-- A message's connection, and its number there.
abbrev pub place_text : Names → ConnId → Seq → List ℕ
place_text names conn seq = conn_text names conn ++ codes " " ++ decimal seq.0

-- A request for a quorum set.
abbrev pub get_set_text : Names → Hash → List ℕ
get_set_text names hash = codes "getset " ++ name_of names hash

-- A quorum set, as a message.
abbrev pub set_message_text : Names → QuorumTree → List ℕ
set_message_text names set = codes "set " ++ set_named names set

-- The answer that there is no such quorum set.
abbrev pub no_set_text : Names → Hash → List ℕ
no_set_text names hash = codes "noset " ++ name_of names hash

-- A request for a record.
abbrev pub get_record_text : Slot → List ℕ
get_record_text slot = codes "getrecord " ++ decimal slot.0

-- A record.
abbrev pub record_text : Slot → List ℕ → List ℕ
record_text slot value = codes "record " ++ decimal slot.0 ++ codes " " ++ value_text value

-- A batch of records.
abbrev pub records_text : Slot → List (List ℕ) → List ℕ
records_text first values = codes "records " ++ decimal first.0 ++ values_text (codes " values(") values

-- A message as text.
abbrev pub message_named : Names → Message → List ℕ
message_named names (Envelope e) = statement_text names e.value
message_named names (GetSet hash) = get_set_text names hash
message_named names (Set set) = set_message_text names set
message_named names (NoSet hash) = no_set_text names hash
message_named names (GetRecord slot) = get_record_text slot
message_named names (Record slot value) = record_text slot value
message_named names (Records first values) = records_text first values

-- A message without a number as text.
abbrev pub side_named : Names → SideMessage → List ℕ
side_named names (side.GetSet hash) = get_set_text names hash
side_named names (side.Set set) = set_message_text names set
side_named names (side.NoSet hash) = no_set_text names hash

-- The kind of a statement, and its slot.
abbrev pub kind_text : Signed → List ℕ
kind_text e = kind_word e.statement.pledges ++ codes " " ++ decimal e.statement.slot.0

-- A message that was sent. A statement is shown by its kind and slot, any other message as a whole.
abbrev pub sent_message_text : Names → Message → List ℕ
sent_message_text names (Envelope e) = kind_text e.value
sent_message_text names message = message_named names message

-- What was sent: the message that the bytes encode, or hexadecimal digits if they encode none.
abbrev pub sent_text : Names → List ℕ → Option Message → List ℕ
sent_text names bytes None = hex_word bytes
sent_text names bytes (Some message) = sent_message_text names message
