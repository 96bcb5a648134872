-- The headline holds for each node that a script's text reports: for nodes that run one step at a time, and for nodes whose stages run in
-- threads.
use Rattle.std.specs.Prelude.{ℕ, ◌+◌, ◌<◌, ◌≡◌, List, [], get_or, length}
use Rattle.scp_turn.specs.scp_core.specs.Kv.{NodeView, HoldsHeadline}
use Rattle.scp_turn.specs.Heard.{Heard, Nodes, past_at}
use Rattle.scp_threaded_script.specs.scp_gather.specs.Kv.{NodeReport, Left, IsReportHeadlined}
use Rattle.scp_threaded_script.specs.scp_threaded_node.specs.declared.ending.Stood.{Stood}
use Rattle.scp_threaded_script.specs.scp_threaded_node.specs.Ended.{AreSentBy}
use Rattle.scp_threaded_script.specs.scp_threaded_node.specs.Seats.{Each}
use Rattle.scp_threaded_script.specs.Lines.{driven_to, items_to}
use Rattle.scp_threaded_script.specs.Reported.{AreNodesReported, AreStood}
use Rattle.scp_report.specs.scp_script.specs.declared.command.Command.{Command}
use Rattle.scp_report.specs.scp_script.specs.Script.{commands_in, node_count}
use Rattle.scp_report.specs.scp_script.specs.Nodes.{id_of, peers_of, set_at}
use Rattle.scp_line.specs.Left.{reports_left}
use Rattle.scp_report.specs.Node.{reports_of}
use Rattle.scp_report.specs.Reports.{settled_text}
use Rattle.scp_line.specs.Play.{ArePlayed}

-- The nodes played all these commands, and the headline holds for each of them, for what it heard.
pub record AreNodesHeadlined (commands : List Command) (nodes : Nodes) : Type 0 where
  pub heard : List Heard
  pub played : ArePlayed commands commands heard nodes
  pub headlines : (i : ℕ) → (d : NodeView) → i < length nodes → HoldsHeadline (past_at (i + 1) heard) (get_or nodes i d)

-- The text is the reports that the script asks for: one for each `report` line, in the order of the lines. The nodes played all lines of the
-- script, and the headline holds for each of them.
pub record AreHeadlined (script text : List ℕ) : Type 0 where
  pub nodes : Nodes
  pub each : AreNodesHeadlined (commands_in script) nodes
  pub reports : text ≡ settled_text (reports_of nodes) (commands_in script)

-- The headline holds for the node of this number, with the books and the state that its report shows. Each link that the script drives carried
-- what the lines put on it; each other link carried what a courier sent.
pub record IsHeadlined (commands : List Command) (number : ℕ) (r : NodeReport) : Type 0 where
  pub left : Left
  pub stood : List Stood
  pub stood_are : AreStood commands number stood
  pub links_count : length left.links ≡ length (peers_of (node_count commands) number)
  pub links_are : AreSentBy (driven_to commands number) (items_to number commands) stood left.links
  pub headline : IsReportHeadlined (id_of number) (set_at number commands) (peers_of (node_count commands) number) left r

-- There is one report for each node of the script, from node 1 on, and the headline holds for each of them.
pub record AreReportsHeadlined (commands : List Command) (nodes : List NodeReport) : Type 0 where
  pub count : length nodes ≡ node_count commands
  pub headlines : Each (λ i r. IsHeadlined commands (i + 1) r) nodes

-- The text is the reports that the script asks for: one for each `report` line, in the order of the lines. The stages of the nodes ran in
-- threads. There is one node for each that the script has, and the headline holds for each.
pub record AreGatheredHeadlined (script text : List ℕ) : Type 0 where
  pub nodes : List NodeReport
  pub each : AreReportsHeadlined (commands_in script) nodes
  pub reports : text ≡ settled_text (reports_left (commands_in script) nodes []) (commands_in script)

-- ---- the laws of both

-- If nodes played these commands, the headline holds for each of them.
abbrev pub PlayingKeepsHeadlines : Type 0
PlayingKeepsHeadlines = (commands : List Command) (heard : List Heard) (nodes : Nodes) → ArePlayed commands commands heard nodes → AreNodesHeadlined commands nodes

-- If these are the reports of a script's nodes that ran in threads, the headline holds for each of them.
abbrev pub ReportingKeepsHeadlines : Type 0
ReportingKeepsHeadlines = (commands : List Command) (nodes : List NodeReport) → AreNodesReported commands nodes → AreReportsHeadlined commands nodes
