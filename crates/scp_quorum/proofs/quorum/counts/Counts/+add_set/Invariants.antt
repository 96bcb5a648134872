use Rattle.std.proofs.Common.{◌≡◌}
use Rattle.scp_xdr.specs.Tree.{in_a_row}
use Rattle.scp_quorum.proofs.quorum.counts.Counts.+add_set.Given as goal

abbrev pub decreases-add_set : goal.decreases-add_set
decreases-add_set l = goal.size-add_set l

abbrev pub invariant-loop-inner : goal.invariant-loop-inner
invariant-loop-inner l = in_a_row l.inner-items ≡ l.set.inner
