use Rattle.std.proofs.Common.{◌≡◌, ◌++◌, map, drop, flat_map}
use Rattle.serde_json.specs.View.{view}
use Rattle.scp_script.specs.Nodes.{reports_in}
use Rattle.scp_report.specs.Report.{view_of}
use Rattle.scp_report.specs.Json.{json_of}
use Rattle.scp_report.specs.Reports.{record_at}
use Rattle.scp_report.proofs.reports.node_values.Given as goal

-- with what is left it is all
abbrev pub invariant-loop-command : goal.invariant-loop-command
invariant-loop-command l =
    map view l.out.items ++ flat_map (λ number. map json_of (record_at (map view_of l.reports) number)) (reports_in (drop l.command-index l.commands))
    ≡ flat_map (λ number. map json_of (record_at (map view_of l.reports) number)) (reports_in l.commands)
