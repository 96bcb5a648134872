use Rattle.std.proofs.Common.{length}
use Rattle.scp_live_config.proofs.sets.+are_apart.Given as goal

abbrev pub decreases-are_apart : goal.decreases-are_apart
decreases-are_apart l = length l.nodes.now
