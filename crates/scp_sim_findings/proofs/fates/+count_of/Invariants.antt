use Rattle.std.proofs.Common.{length}
use Rattle.scp_sim_findings.proofs.fates.+count_of.Given as goal

abbrev pub decreases-count_of : goal.decreases-count_of
decreases-count_of l = length l.marks.now
