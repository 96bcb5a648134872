-- The record of a node whose stages ran in threads, made from what these left.
use Rattle.std.specs.Prelude.{ℕ, ◌+◌, List, [], ◌∷◌, None, fold, get_or, length, map}
use Rattle.std.specs.FinMap as finite
use Rattle.std.specs.BTreeSet.{insert_key}
use Rattle.scp_turn.specs.scp_types.specs.declared.names.ConnId.{ConnId}
use Rattle.scp_turn.specs.scp_types.specs.declared.names.NodeId.{NodeId}
use Rattle.scp_turn.specs.scp_types.specs.Order.{conn_cmp}
use Rattle.scp_turn.specs.scp_quorum.specs.QuorumTree.{QuorumTree}
use Rattle.scp_turn.specs.scp_wire.specs.declared.carried.Carried.{Carried}
use Rattle.scp_turn.specs.scp_pending.specs.Messages.{messages_on}
use Rattle.scp_threaded_script.specs.scp_gather.specs.Kv.{NodeReport}
use Rattle.scp_report.specs.scp_script.specs.declared.command.Command.{Command}
use Rattle.scp_report.specs.scp_script.specs.Script.{node_count}
use Rattle.scp_report.specs.scp_script.specs.Nodes.{id_of, numbers, peers_of, set_at}
use Rattle.scp_report.specs.declared.report.LinkReport.{LinkReport}
use Rattle.scp_report.specs.declared.report.Parked.{Parked}
use Rattle.scp_report.specs.Report.{ReportView}

-- the connections of messages, each once, ascending
abbrev pub conns_waiting : List Carried → List ConnId
conns_waiting messages = fold (λ conns message. insert_key conn_cmp conns message.conn) [] messages

-- the connection with the number of these messages that came over it
abbrev pub count_on : List Carried → ConnId → Parked
count_on messages conn = record { conn = conn; count = length (messages_on conn messages); first = None }

-- the connections of these messages, ascending, each with its number of messages
abbrev pub parked_counts : List Carried → List Parked
parked_counts messages = map (count_on messages) (conns_waiting messages)

-- The links to these peers, the first of which has this number. `lost` has how many own statements were lost on each; what it doesn't have
-- is 0.
abbrev pub links_left : List ℕ → ℕ → List NodeId → List LinkReport
links_left lost link [] = []
links_left lost link (peer ∷ peers) = record { peer = peer; overwritten = get_or lost link 0; waiting = 0 } ∷ links_left lost (link + 1) peers

-- the quorum sets of the nodes of a script, that of node 1 first
abbrev pub sets_in : List Command → List QuorumTree
sets_in commands = map (λ number. set_at number commands) (numbers (node_count commands))

-- The record of the node of this number in a script of these commands, from what its threads left, and from how many own statements were lost
-- on each of its links. All that it decided is applied.
abbrev pub report_left : List Command → ℕ → NodeReport → List ℕ → ReportView
report_left commands number left lost = record {
  node = number;
  me = id_of number;
  set = set_at number commands;
  links = links_left lost 0 (peers_of (node_count commands) number);
  journal = left.journal.items;
  parked = parked_counts left.parked.items;
  decisions = left.applied.items;
  applied = left.applied.items;
  state = finite.entries left.state;
  messages = left.parked.items;
  commands = left.commands.items;
  came = left.came.items;
}

-- The same for these nodes, the first of which has the number after this one. `losses` has a row for each node of the script, or none.
abbrev pub left_behind : List Command → List (List ℕ) → ℕ → List NodeReport → List ReportView
left_behind commands losses number [] = []
left_behind commands losses number (left ∷ others) = report_left commands (number + 1) left (get_or losses number []) ∷ left_behind commands losses (number + 1) others

-- the records of the nodes of a script that ran in threads
abbrev pub reports_left : List Command → List NodeReport → List (List ℕ) → List ReportView
reports_left commands nodes losses = left_behind commands losses 0 nodes
