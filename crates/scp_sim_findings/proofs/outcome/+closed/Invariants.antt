use Rattle.std.proofs.Common.{length}
use Rattle.scp_sim_findings.proofs.outcome.+closed.Given as goal

abbrev pub decreases-closed : goal.decreases-closed
decreases-closed l = length l.marks.now
