use Rattle.std.proofs.Common.{◌≡◌, ◌+◌, map, arith}
use Rattle.serde_json.specs.View.{view}
use Rattle.scp_report.specs.Report.{view_of}
use Rattle.scp_report.specs.Json.{json_of}
use Rattle.scp_report.proofs.Asked.{shown_within, shown_past}
use Rattle.scp_report.proofs.reports.add_node_at.Goals as goal

pub returns-in-Some-clause-added : goal.returns-in-Some-clause-added
returns-in-Some-clause-added c =
    let place : c.args.number ≡ c.from.result + 1 = omega (arith, c.requires.number.0, c.from.ensures) in
    let there = c.in-Some.ensures.lookup in
    rw (shown_within json_of view_of c.args.reports.now c.from.result c.args.number c.in-Some.report.now place there.3.0 there.1) c.add_node.ensures.added

pub returns-in-None-clause-added : goal.returns-in-None-clause-added
returns-in-None-clause-added c =
    let place : c.args.number ≡ c.from.result + 1 = omega (arith, c.requires.number.0, c.from.ensures) in
    shown_past json_of view_of c.args.reports.now c.from.result c.args.number (map view c.args.out.now.items) place c.in-None.ensures.lookup.3
