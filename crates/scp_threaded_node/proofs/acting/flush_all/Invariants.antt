use Rattle.std.proofs.Common.{◌≡◌}
use Rattle.scp_threaded_node.proofs.acting.flush_all.Given as goal

abbrev pub invariant-loop-lane : goal.invariant-loop-lane
invariant-loop-lane g l = l.lane-items ≡ l.fn.node.lanes.items
