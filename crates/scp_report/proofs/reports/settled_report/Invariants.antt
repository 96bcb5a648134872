use Rattle.std.proofs.Common.{◌≡◌, ◌++◌, drop, map, string_bytes, flat_map}
use Rattle.scp_script.specs.Nodes.{reports_in}
use Rattle.scp_report.specs.Report.{view_of}
use Rattle.scp_report.specs.Settled.{settled_of}
use Rattle.scp_report.specs.Reports.{record_at}
use Rattle.scp_report.proofs.reports.settled_report.Given as goal

-- with what is left it is all
abbrev pub invariant-loop-command : goal.invariant-loop-command
invariant-loop-command l =
    string_bytes l.out ++ flat_map (λ number. flat_map settled_of (record_at (map view_of l.reports) number)) (reports_in (drop l.command-index l.commands))
    ≡ flat_map (λ number. flat_map settled_of (record_at (map view_of l.reports) number)) (reports_in l.commands)
