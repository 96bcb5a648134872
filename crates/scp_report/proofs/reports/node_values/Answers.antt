use Rattle.std.proofs.Common.{map, arith}
use Rattle.serde_json.specs.View.{view}
use Rattle.scp_report.specs.Report.{view_of}
use Rattle.scp_report.specs.Json.{json_of}
use Rattle.scp_report.specs.Reports.{record_at}
use Rattle.scp_report.proofs.Asked.{shown_end}
use Rattle.scp_report.proofs.reports.node_values.Goals as goal

pub returns-clause-values : goal.returns-clause-values
returns-clause-values c = shown_end json_of (record_at (map view_of c.args.reports.now)) c.args.commands.now c.loop-command.command-index (map view c.loop-command.out.items) (omega arith) c.loop-command.invariant
