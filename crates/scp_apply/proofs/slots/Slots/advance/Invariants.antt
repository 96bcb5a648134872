use Rattle.std.proofs.Common.{length}
use Rattle.scp_apply.proofs.Applying.{IsAdvancing}
use Rattle.scp_apply.proofs.slots.Slots.advance.Given as goal

abbrev pub invariant-loop-place : goal.invariant-loop-place
invariant-loop-place g l = IsAdvancing g.A.Application.after l.initial.self l.initial.state l.self l.state

abbrev pub decreases-loop-place : goal.decreases-loop-place
decreases-loop-place g l = length l.self.buffer.items
