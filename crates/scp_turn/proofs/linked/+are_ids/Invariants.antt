use Rattle.std.proofs.Common.{length}
use Rattle.scp_turn.proofs.linked.+are_ids.Given as goal

abbrev pub decreases-are_ids : goal.decreases-are_ids
decreases-are_ids l = length l.nodes.now
