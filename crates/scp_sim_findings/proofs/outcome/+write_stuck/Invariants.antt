use Rattle.std.proofs.Common.{length}
use Rattle.scp_sim_findings.proofs.outcome.+write_stuck.Given as goal

abbrev pub decreases-write_stuck : goal.decreases-write_stuck
decreases-write_stuck l = length l.marks.now
