use Rattle.std.proofs.Common.{◌-◌}
use Rattle.scp_types.proofs.Words.{AlikeTo}
use Rattle.scp_types.proofs.bytes.same_bytes.Given as goal

abbrev pub invariant-loop-at : goal.invariant-loop-at
invariant-loop-at l = AlikeTo l.a l.b l.at

abbrev pub decreases-loop-at : goal.decreases-loop-at
decreases-loop-at l = l.last - l.at
