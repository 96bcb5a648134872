use Rattle.std.proofs.Common.{length}
use Rattle.scp_quorum_search.proofs.halting.+gather.Given as goal

abbrev pub decreases-gather : goal.decreases-gather
decreases-gather l = length l.left.now
