use Rattle.std.proofs.Common.{length}
use Rattle.scp_threaded_node.proofs.ending.+end_lanes.Given as goal

abbrev pub decreases-end_lanes : goal.decreases-end_lanes
decreases-end_lanes g l = length l.lanes.items
