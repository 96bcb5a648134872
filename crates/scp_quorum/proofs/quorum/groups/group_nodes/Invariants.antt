use Rattle.scp_quorum.proofs.Groups.{IsGrouping}
use Rattle.scp_quorum.proofs.quorum.groups.group_nodes.Given as goal

abbrev pub invariant-loop-node : goal.invariant-loop-node
invariant-loop-node l = IsGrouping l.sets l.groups.items l.node-iterator
