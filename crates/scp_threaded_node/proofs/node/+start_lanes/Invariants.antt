use Rattle.std.proofs.Common.{length}
use Rattle.scp_threaded_node.proofs.node.+start_lanes.Given as goal

abbrev pub decreases-start_lanes : goal.decreases-start_lanes
decreases-start_lanes g l = length l.lanes.items
