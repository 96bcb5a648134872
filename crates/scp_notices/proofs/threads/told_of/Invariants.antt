use Rattle.std.proofs.Common.{◌≡◌, ◌+◌, ◌++◌, drop, map}
use Rattle.scp_line.specs.scp_report.specs.Report.{view_of}
use Rattle.scp_notices.specs.Ignoring.{told_from}
use Rattle.scp_notices.specs.Threads.{told_in}
use Rattle.scp_notices.proofs.threads.told_of.Given as goal

-- with what is left it is all
abbrev pub invariant-loop-report : goal.invariant-loop-report
invariant-loop-report l = record {
  at : l.number ≡ l.report-index + 1;
  all : l.told.items ++ told_from l.number (map (λ report. report.commands) (map view_of (drop l.report-index l.reports))) ≡ told_in (map view_of l.reports);
}
