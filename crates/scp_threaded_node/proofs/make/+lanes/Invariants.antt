use Rattle.std.proofs.Common.{length}
use Rattle.scp_threaded_node.proofs.make.+lanes.Given as goal

abbrev pub decreases-lanes : goal.decreases-lanes
decreases-lanes l = length l.ends.items
