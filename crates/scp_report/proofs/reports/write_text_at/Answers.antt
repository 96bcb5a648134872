use Rattle.std.proofs.Common.{◌≡◌, ◌+◌, string_bytes, arith}
use Rattle.scp_report.specs.Report.{view_of}
use Rattle.scp_report.specs.Text.{text_report_of}
use Rattle.scp_report.proofs.Asked.{told_within, told_past}
use Rattle.scp_report.proofs.reports.write_text_at.Goals as goal

pub returns-in-Some-clause-added : goal.returns-in-Some-clause-added
returns-in-Some-clause-added c =
    let place : c.args.number ≡ c.from.result + 1 = omega (arith, c.requires.number.0, c.from.ensures) in
    let there = c.in-Some.ensures.lookup in
    rw (told_within text_report_of view_of c.args.reports.now c.from.result c.args.number c.in-Some.report.now place there.3.0 there.1) c.write_text.ensures.added

pub returns-in-None-clause-added : goal.returns-in-None-clause-added
returns-in-None-clause-added c =
    let place : c.args.number ≡ c.from.result + 1 = omega (arith, c.requires.number.0, c.from.ensures) in
    told_past text_report_of view_of c.args.reports.now c.from.result c.args.number (string_bytes c.args.out.now) place c.in-None.ensures.lookup.3
