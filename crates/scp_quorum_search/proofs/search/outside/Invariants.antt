use Rattle.std.proofs.Common.{take}
use Rattle.scp_quorum.specs.NodeSet.{is_in}
use Rattle.scp_quorum_search.proofs.Sets.{IsOutside}
use Rattle.scp_quorum_search.proofs.search.outside.Given as goal

abbrev pub invariant-loop-node : goal.invariant-loop-node
invariant-loop-node l = IsOutside l.all (is_in l.chosen) (is_in l.nodes) (take l.node-index l.all)
