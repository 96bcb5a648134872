-- A report as JSON (this project's profile). Numbers are whole. A value or a key is given both in lower-case hex digits and as text.
use Rattle.std.specs.Prelude.{ℕ, List, [], ◌∷◌, ◌++◌, map, filter, codes, if◌then◌else◌}
use Rattle.hex.specs.Hex.{encode_lower}
use Rattle.serde_json.specs.Data.{Data, number, unsigned, string, array, object, member, no_members}
use Rattle.serde_json.specs.View.{items_of}
use Rattle.serde_json.specs.Written.{compact_text}
use Rattle.scp_core.specs.scp_types.specs.declared.names.ConnId.{ConnId}
use Rattle.scp_core.specs.scp_ledger.specs.declared.journal.Fate.{Fate}
use Rattle.scp_core.specs.scp_ledger.specs.declared.journal.Fate.TheVariants.{Taken, Dropped, Closed}
use Rattle.scp_core.specs.scp_ledger.specs.declared.journal.Origin.{Origin}
use Rattle.scp_core.specs.scp_ledger.specs.declared.journal.Origin.TheVariants.{Machine, Named}
use Rattle.scp_core.specs.scp_ledger.specs.declared.journal.Decision.{Decision}
use Rattle.scp_core.specs.scp_wire.specs.Connections.{same_conn}
use Rattle.scp_core.specs.scp_theorem.specs.Fates.{conn_of}
use Rattle.scp_text.specs.Values.{bytes_text, value_text}
use Rattle.scp_report.specs.declared.report.Parked.{Parked}
use Rattle.scp_words.specs.Words.{verdict_word, cause_word, drop_word}
use Rattle.scp_report.specs.Report.{ReportView}
use Rattle.scp_report.specs.Settled.{node_number, conns_of}

-- A number of the document.
abbrev pub count : ℕ → Data
count n = number (unsigned n)

-- What became of a message, or the end of a connection. `message` is the number of the message, and the words are those of a report's lines.
abbrev pub fate_json : Fate → Data
fate_json (Taken conn seq message set verdict) =
    object (member (codes "fate") (string (codes "taken")) (member (codes "message") (count seq.0) (member (codes "verdict") (string (verdict_word verdict)) no_members)))
fate_json (Dropped conn seq cause) =
    object (member (codes "cause") (string (drop_word cause)) (member (codes "fate") (string (codes "dropped")) (member (codes "message") (count seq.0) no_members)))
fate_json (Closed conn cause) =
    object (member (codes "cause") (string (cause_word cause)) (member (codes "fate") (string (codes "closed")) no_members))

-- The entries of a journal that belong to a connection, in their order.
abbrev pub fates_on : List Fate → ConnId → List Fate
fates_on journal conn = filter (λ fate. same_conn (conn_of fate) conn) journal

-- The number of a connection's messages that are parked.
abbrev pub parked_on : List Parked → ConnId → ℕ
parked_on [] conn = 0
parked_on (waiting ∷ others) conn = if same_conn waiting.conn conn then waiting.count else parked_on others conn

-- A connection: the number of the node that sends on it, its life, what became of its messages, in the order of the journal, and how many are
-- parked.
abbrev pub connection_json : List Fate → List Parked → ConnId → Data
connection_json journal parked conn =
    object (member (codes "fates") (array (items_of (map fate_json (fates_on journal conn))))
    (member (codes "from") (count (node_number conn.from))
    (member (codes "life") (count conn.life)
    (member (codes "parked") (count (parked_on parked conn)) no_members))))

-- What a decision rests on: the node's own machine, or a record that came over a connection.
abbrev pub origin_json : Origin → Data
origin_json (Machine n quorum own) = object (member (codes "kind") (string (codes "machine")) no_members)
origin_json (Named conn seq) =
    object (member (codes "from") (count (node_number conn.from))
    (member (codes "kind") (string (codes "record"))
    (member (codes "life") (count conn.life)
    (member (codes "message") (count seq.0) no_members))))

-- An applied slot.
abbrev pub applied_json : Decision → Data
applied_json d =
    object (member (codes "origin") (origin_json d.origin)
    (member (codes "slot") (count d.slot.0)
    (member (codes "value") (string (encode_lower d.value))
    (member (codes "value_text") (string (value_text d.value)) no_members))))

-- A key of the state, with its value.
abbrev pub state_json : List ℕ × List ℕ → Data
state_json entry =
    object (member (codes "key") (string (encode_lower entry.0))
    (member (codes "key_text") (string (bytes_text entry.0))
    (member (codes "value") (string (encode_lower entry.1))
    (member (codes "value_text") (string (bytes_text entry.1)) no_members))))

-- The report of a node: its connections, ascending by sender and life; the slots that it applied, from 1 on; and its state, ascending by key.
abbrev pub json_of : ReportView → Data
json_of v =
    object (member (codes "applied") (array (items_of (map applied_json v.applied)))
    (member (codes "connections") (array (items_of (map (connection_json v.journal v.parked) (conns_of v.journal v.parked))))
    (member (codes "node") (count v.node)
    (member (codes "state") (array (items_of (map state_json v.state))) no_members))))

-- The document of these reports.
abbrev pub document_of : List ReportView → Data
document_of views = object (member (codes "nodes") (array (items_of (map json_of views))) no_members)

-- The text of the document, without spaces, in one line.
abbrev pub document_text : List ReportView → List ℕ
document_text views = compact_text (document_of views) ++ codes "\n"
