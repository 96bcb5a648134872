-- What the threads of a node left, if its values are operation lists (this project's profile).
use Rattle.std.specs.Prelude.{List}
use Rattle.std.specs.FinMap as finite
use Rattle.scp_workers.specs.scp_types.specs.declared.names.NodeId.{NodeId}
use Rattle.scp_workers.specs.scp_quorum.specs.QuorumTree.{QuorumTree}
use Rattle.scp_workers.specs.scp_driver.specs.declared.kv_driver.KvDriver.{KvDriver}
use Rattle.scp_workers.specs.scp_driver.specs.Kv.{kv_says}
use Rattle.scp_workers.specs.scp_kv.specs.Map.{KvMap}
use Rattle.scp_workers.specs.scp_kv.specs.State.{after_value}
use Rattle.scp_workers.specs.scp_wire.specs.declared.carried.Carried.{Carried}
use Rattle.scp_workers.specs.scp_ledger.specs.declared.journal.Decision.{Decision}
use Rattle.scp_workers.specs.scp_ledger.specs.declared.journal.Fate.{Fate}
use Rattle.scp_workers.specs.scp_ledger.specs.declared.took.CommandFate.{CommandFate}
use Rattle.scp_workers.specs.Slot as slot
use Rattle.scp_gather.specs.declared.gathering.NodeReport as gathering
use Rattle.scp_gather.specs.Left as left
use Rattle.scp_gather.specs.Report as report
use Rattle.scp_gather.specs.Sending as sending
use Rattle.scp_gather.specs.Headline as headline

-- what contracts see of the worker of the slot stage
abbrev pub SlotWork : Type 0
SlotWork = slot.SlotWork KvDriver

-- what it ends with
abbrev pub SlotEnd : Type 0
SlotEnd = slot.SlotEnd KvDriver

-- what the node's threads left
abbrev pub Left : Type 0
Left = left.Left KvDriver

-- what is reported of the node
abbrev pub NodeReport : Type 0
NodeReport = gathering.NodeReport KvDriver KvMap

-- the journal, what is parked and what is applied are those of the node that was gathered
abbrev pub IsReportOf : NodeId → QuorumTree → List NodeId → Left → List Fate → List Carried → List Decision → Type 0
IsReportOf me set peers e journal parked applied = report.IsReportOf kv_says me set peers e journal parked applied

-- this became of its own commands, except ticks, in order
abbrev pub AreFatesOf : NodeId → QuorumTree → List NodeId → Left → List CommandFate → Type 0
AreFatesOf me set peers e fates = report.AreFatesOf kv_says me set peers e fates

-- its stages put into each link's outbox what they handed out for the link
abbrev pub ArePutOut : NodeId → QuorumTree → List NodeId → Left → Type 0
ArePutOut me set peers e = sending.ArePutOut kv_says me set peers e

-- the headline holds of its report, with its state: what the applied operation lists make of the empty map
abbrev pub IsReportHeadlined : NodeId → QuorumTree → List NodeId → Left → NodeReport → Type 0
IsReportHeadlined me set peers e r = headline.IsReportHeadlined finite.empty after_value me set peers e r

-- the headline holds of a node's report
abbrev pub ReportsKeepHeadline : Type 0
ReportsKeepHeadline = headline.ReportsKeepHeadline kv_says
