-- What the record of a node has, as the code holds it.
-- No public clause reaches these definitions: nothing here need be believed.
use Rattle.std.specs.Prelude.{ℕ, List}
use Rattle.scp_line.specs.scp_ledger.specs.declared.journal.Decision.{Decision}
use Rattle.scp_line.specs.scp_report.specs.declared.report.Report.{Report}
use Rattle.scp_line.specs.scp_report.specs.Report.{view_of}
use Rattle.scp_notices.specs.Lost.{losses_of}

-- the decisions that the node applied
abbrev pub applied_in : Report → List Decision
applied_in report = report.applied.now

-- the number of own statements that it lost for the peer of each link
abbrev pub lost_in : Report → ℕ → ℕ
lost_in report = losses_of (view_of report)
