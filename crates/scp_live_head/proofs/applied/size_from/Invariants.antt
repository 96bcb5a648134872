use Rattle.std.proofs.Common.{length}
use Rattle.scp_live_head.proofs.Slots.{IsWalking}
use Rattle.scp_live_head.proofs.applied.size_from.Given as goal

abbrev pub invariant-loop-size : goal.invariant-loop-size
invariant-loop-size l = IsWalking l.slot l.first l.bytes l.next l.rest

abbrev pub decreases-loop-size : goal.decreases-loop-size
decreases-loop-size l = length l.rest
