use Rattle.std.proofs.Common.{arith}
use Rattle.scp_line.proofs.threads.left_reports.Goals as goal

pub reports_left-requires-clause-few : goal.reports_left-requires-clause-few
reports_left-requires-clause-few c = omega (arith, c.requires.count, c.count_of_nodes-count.ensures.count, c.count_of_nodes-count.ensures.few)
