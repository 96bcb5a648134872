-- What is shown of a node: the one record of which reports, accounts and notices are made.
use Rattle.std.specs.Prelude.{ℕ, List, [], Option, Some, None}
use Rattle.std.specs.Global.{Vec}
use Rattle.std.proofs.Common.{Bor}
use Rattle.std.specs.FinMap as map
use Rattle.scp_core.specs.scp_types.specs.declared.names.NodeId.{NodeId}
use Rattle.scp_core.specs.scp_quorum.specs.QuorumTree.{QuorumTree}
use Rattle.scp_core.specs.scp_kv.specs.Map.{KvMap}
use Rattle.scp_core.specs.scp_wire.specs.declared.carried.Carried.{Carried}
use Rattle.scp_core.specs.scp_wire.specs.declared.link.LinkItem.{LinkItem}
use Rattle.scp_core.specs.scp_ledger.specs.declared.journal.Fate.{Fate}
use Rattle.scp_core.specs.scp_ledger.specs.declared.journal.Decision.{Decision}
use Rattle.scp_core.specs.scp_ledger.specs.declared.took.CommandFate.{CommandFate}
use Rattle.scp_report.specs.declared.report.LinkReport.{LinkReport}
use Rattle.scp_report.specs.declared.report.Parked.{Parked}
use Rattle.scp_report.specs.declared.report.Report.{Report}

-- What is shown of a node, whichever way it runs. The last three fields are empty for a node that takes one step after another: only threads
-- leave them.
pub record ReportView : Type 0 where
  pub node : ℕ  -- its number, from 1 on
  pub me : NodeId
  pub set : QuorumTree  -- its own quorum set
  pub links : List LinkReport
  pub journal : List Fate
  pub parked : List Parked  -- the connections with messages that wait
  pub decisions : List Decision
  pub applied : List Decision
  pub state : List (List ℕ × List ℕ)  -- the keys with their values
  pub messages : List Carried  -- the messages that wait
  pub commands : List CommandFate  -- what became of its own commands but the ticks
  pub came : List (Option (Vec LinkItem))  -- what came over each link, where that was kept

-- the keys with their values; none where there is no state
abbrev pub state_of : Option (Bor KvMap) → List (List ℕ × List ℕ)
state_of (Some state) = map.entries state.now
state_of None = []

-- the same, for a state that a definition names
abbrev pub entries_of : Option KvMap → List (List ℕ × List ℕ)
entries_of (Some state) = map.entries state
entries_of None = []

-- the record that the code has, as definitions see it
abbrev pub view_of : Report → ReportView
view_of report = record {
  node = report.node;
  me = report.me;
  set = report.set.now;
  links = report.links.items;
  journal = report.journal.now;
  parked = report.parked.items;
  decisions = report.decisions.now;
  applied = report.applied.now;
  state = state_of report.state;
  messages = report.messages.now;
  commands = report.commands.now;
  came = report.came.now;
}
