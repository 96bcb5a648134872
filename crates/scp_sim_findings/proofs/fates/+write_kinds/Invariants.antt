use Rattle.std.proofs.Common.{length}
use Rattle.scp_sim_findings.proofs.fates.+write_kinds.Given as goal

abbrev pub decreases-write_kinds : goal.decreases-write_kinds
decreases-write_kinds l = length l.kinds.now
