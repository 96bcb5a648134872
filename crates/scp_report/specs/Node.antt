-- The record of a node that takes one step after another, in a script or live.
use Rattle.std.specs.Prelude.{ℕ, ◌+◌, List, [], ◌∷◌, take}
use Rattle.scp_core.specs.scp_types.specs.declared.limits.TheConstants.{LINK_LIMIT}
use Rattle.scp_core.specs.scp_types.specs.declared.names.NodeId.{NodeId}
use Rattle.scp_core.specs.scp_outbox.specs.Outbox.{OutboxView}
use Rattle.scp_core.specs.scp_outbox.specs.Handing.{waiting_at, overwritten_at}
use Rattle.scp_core.specs.Kv.{NodeView, state_shown}
use Rattle.scp_report.specs.declared.report.LinkReport.{LinkReport}
use Rattle.scp_report.specs.Report.{ReportView, entries_of}
use Rattle.scp_report.specs.Waiting.{parked_in}

-- the links to these peers, the first of which has this number
abbrev pub links_behind : List OutboxView → ℕ → List NodeId → List LinkReport
links_behind outboxes link [] = []
links_behind outboxes link (peer ∷ peers) = record { peer = peer; overwritten = overwritten_at outboxes link; waiting = waiting_at outboxes link } ∷ links_behind outboxes (link + 1) peers

-- the record of the node of this number
abbrev pub report_of : ℕ → NodeView → ReportView
report_of number node = record {
  node = number;
  me = node.config.me;
  set = node.config.set;
  links = links_behind node.outboxes 0 (take LINK_LIMIT node.config.peers);
  journal = node.ledger.journal;
  parked = parked_in node;
  decisions = node.ledger.decisions;
  applied = node.applier.applied;
  state = entries_of (state_shown node);
  messages = [];
  commands = [];
  came = [];
}

-- the records of these nodes, the first of which has the number after this one
abbrev pub reports_behind : ℕ → List NodeView → List ReportView
reports_behind number [] = []
reports_behind number (node ∷ nodes) = report_of (number + 1) node ∷ reports_behind (number + 1) nodes

-- the records of nodes, the first of which has number 1
abbrev pub reports_of : List NodeView → List ReportView
reports_of nodes = reports_behind 0 nodes
