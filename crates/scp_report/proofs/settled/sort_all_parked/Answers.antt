use Rattle.std.proofs.Common.{arith}
use Rattle.scp_report.specs.Settled.{conn_parked, waiting_line}
use Rattle.scp_report.specs.inside.Sections.{lines_at}
use Rattle.scp_report.proofs.Sections.{sections-next}
use Rattle.scp_report.proofs.settled.sort_all_parked.Goals as goal

pub loop-waiting-preserved : goal.loop-waiting-preserved
loop-waiting-preserved c = sections-next conn_parked waiting_line (lines_at c.args.sections.now) c.args.parked.now c.loop-waiting.waiting-index _ (lines_at c.sort_parked.new.sections) (lines_at c.loop-waiting.sections) (omega arith) c.in_ok-sort_parked.ensures c.loop-waiting.invariant
