use Rattle.std.proofs.Common.{take}
use Rattle.scp_quorum.specs.NodeSet.{is_in}
use Rattle.scp_quorum_search.proofs.Settling.{IsPass}
use Rattle.scp_quorum_search.proofs.settle.remove_unsatisfied.Given as goal

abbrev pub invariant-loop-member : goal.invariant-loop-member
invariant-loop-member l = IsPass (is_in l.liars) l.members l.initial.nodes l.nodes l.removed (take l.member-index l.members)
