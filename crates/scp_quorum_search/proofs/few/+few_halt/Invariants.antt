use Rattle.std.proofs.Common.{length}
use Rattle.scp_quorum_search.proofs.few.+few_halt.Given as goal

abbrev pub decreases-few_halt : goal.decreases-few_halt
decreases-few_halt l = length l.left.now
