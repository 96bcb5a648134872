-- The text of a report, in the fixed form (this project's profile).
use Rattle.std.specs.Prelude.{ℕ, ◌≡◌, List, [], ◌++◌, codes, flat_map, filter, fold, slice_index, ◌||◌}
use Rattle.std.specs.Fmt.{decimal}
use Rattle.std.specs.List.{list_any}
use Rattle.std.specs.List.Sorted.{IsStrictlySortedBy}
use Rattle.std.specs.BTreeSet.{insert_key}
use Rattle.scp_core.specs.scp_types.specs.declared.names.ConnId.{ConnId}
use Rattle.scp_core.specs.scp_types.specs.declared.names.NodeId.{NodeId}
use Rattle.scp_core.specs.scp_ledger.specs.declared.journal.Fate.{Fate}
use Rattle.scp_core.specs.scp_ledger.specs.declared.journal.Fate.TheVariants.{Taken, Dropped, Closed}
use Rattle.scp_core.specs.scp_ledger.specs.declared.journal.Origin.{Origin}
use Rattle.scp_core.specs.scp_ledger.specs.declared.journal.Origin.TheVariants.{Machine, Named}
use Rattle.scp_core.specs.scp_ledger.specs.declared.journal.Decision.{Decision}
use Rattle.scp_core.specs.scp_wire.specs.Connections.{same_conn}
use Rattle.scp_words.specs.Words.{verdict_word, cause_word, drop_word, hex_word}
use Rattle.scp_report.specs.declared.report.Parked.{Parked}
use Rattle.scp_core.specs.scp_theorem.specs.Fates.{conn_of}
use Rattle.scp_core.specs.scp_types.specs.Order.{conn_cmp}
use Rattle.scp_report.specs.Report.{ReportView}

-- the line of a journal entry
abbrev pub fate_line : Fate → List ℕ
fate_line (Taken conn seq message set verdict) = decimal seq.0 ++ codes " taken " ++ verdict_word verdict ++ codes "\n"
fate_line (Dropped conn seq cause) = decimal seq.0 ++ codes " dropped " ++ drop_word cause ++ codes "\n"
fate_line (Closed conn cause) = codes "closed " ++ cause_word cause ++ codes "\n"

-- the number of a node whose id is 32 bytes of its number
abbrev pub node_number : NodeId → ℕ
node_number id = slice_index id.0 0

-- The words for what a decision rests on: the node's own machine, or a record, named by its connection and number.
abbrev pub origin_words : Origin → List ℕ
origin_words (Machine n quorum own) = codes "machine"
origin_words (Named conn seq) = codes "record " ++ decimal (node_number conn.from) ++ codes " " ++ decimal conn.life ++ codes " " ++ decimal seq.0

-- the line of an applied slot
abbrev pub applied_line : Decision → List ℕ
applied_line d = codes "applied " ++ decimal d.slot.0 ++ codes " " ++ hex_word d.value ++ codes " " ++ origin_words d.origin ++ codes "\n"

-- the line of a key with its value
abbrev pub state_line : List ℕ × List ℕ → List ℕ
state_line entry = codes "state " ++ hex_word entry.0 ++ codes "=" ++ hex_word entry.1 ++ codes "\n"

-- the connection whose messages are parked
abbrev pub conn_parked : Parked → ConnId
conn_parked parked = parked.conn

-- the connections with journal entries or parked messages, ascending
abbrev pub conns_of : List Fate → List Parked → List ConnId
conns_of journal parked =
    fold (λ conns waiting. insert_key conn_cmp conns waiting.conn) (fold (λ conns fate. insert_key conn_cmp conns (conn_of fate)) [] journal) parked

-- The law of a report's connections: each appears once, they ascend, and they are exactly those with journal entries or parked messages.
pub record AreConnections (journal : List Fate) (parked : List Parked) (conns : List ConnId) : Type 0 where
  pub ascending : IsStrictlySortedBy conn_cmp conns
  pub those : (conn : ConnId) → list_any (λ c. same_conn c conn) conns ≡ (list_any (λ fate. same_conn (conn_of fate) conn) journal || list_any (λ waiting. same_conn (conn_parked waiting) conn) parked)

-- the line of a connection: the number of the node that sends on it, and its life
abbrev pub conn_line : ConnId → List ℕ
conn_line conn = codes "conn " ++ decimal (node_number conn.from) ++ codes " " ++ decimal conn.life ++ codes "\n"

-- the lines of those items that belong to the connection, in their order
abbrev pub lines_in : {X : Type 0} → (X → ConnId) → (X → List ℕ) → List X → ConnId → List ℕ
lines_in key line items conn = flat_map line (filter (λ x. same_conn (key x) conn) items)

-- the lines of a connection's entries, in the journal's order
abbrev pub fate_lines : List Fate → ConnId → List ℕ
fate_lines journal conn = lines_in conn_of fate_line journal conn

-- the line that shows how many messages are parked
abbrev pub parked_line : ℕ → List ℕ
parked_line count = codes "parked " ++ decimal count ++ codes "\n"

-- the line that shows how many messages of a connection are parked
abbrev pub waiting_line : Parked → List ℕ
waiting_line parked = parked_line parked.count

-- the lines that show how many messages of this connection are parked
abbrev pub parked_lines : List Parked → ConnId → List ℕ
parked_lines parked conn = lines_in conn_parked waiting_line parked conn

-- the section of a connection: its line, its entries, and how many of its messages are parked
abbrev pub section_of : List Fate → List Parked → ConnId → List ℕ
section_of journal parked conn = conn_line conn ++ (fate_lines journal conn ++ parked_lines parked conn)

-- the text of a report: the node, a section for each connection, the applied slots, the state
abbrev pub settled_of : ReportView → List ℕ
settled_of v =
    codes "node " ++ decimal v.node ++ codes "\n"
    ++ flat_map (section_of v.journal v.parked) (conns_of v.journal v.parked)
    ++ flat_map applied_line v.applied
    ++ flat_map state_line v.state
    ++ codes "end\n"
