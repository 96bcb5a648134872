use Rattle.std.proofs.Common.{length}
use Rattle.scp_batches.proofs.Splitting.{IsFed}
use Rattle.scp_batches.proofs.lines.feed.Given as goal

abbrev pub invariant-loop-end : goal.invariant-loop-end
invariant-loop-end l = IsFed l.fn.held.items l.bytes l.rest l.lines.items l.held.items

abbrev pub decreases-loop-end : goal.decreases-loop-end
decreases-loop-end l = length l.rest
