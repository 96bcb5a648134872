use Rattle.std.proofs.Common.{map, string_bytes, arith}
use Rattle.scp_report.specs.Report.{view_of}
use Rattle.scp_report.specs.Text.{text_report_of}
use Rattle.scp_report.specs.Reports.{record_at}
use Rattle.scp_report.proofs.Asked.{told_end}
use Rattle.scp_report.proofs.reports.text_report.Goals as goal

pub returns-clause-text : goal.returns-clause-text
returns-clause-text c = told_end text_report_of (record_at (map view_of c.args.reports.now)) c.args.commands.now c.loop-command.command-index (string_bytes c.loop-command.out) (omega arith) c.loop-command.invariant
