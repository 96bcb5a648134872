use Rattle.scp_quorum.proofs.Same.{SameBefore, ZeroIfSame}
use Rattle.scp_quorum.proofs.quorum_set.same.are_same_nodes.Given as goal

abbrev pub invariant-loop-i : goal.invariant-loop-i
invariant-loop-i l = SameBefore l.unequal l.mine l.theirs l.i × ZeroIfSame l.unequal l.mine l.theirs
