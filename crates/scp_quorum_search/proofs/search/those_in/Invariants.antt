use Rattle.std.proofs.Common.{◌≡◌, false, take}
use Rattle.scp_quorum.specs.NodeSet.{is_in}
use Rattle.scp_quorum_search.proofs.Sets.{IsSifting}
use Rattle.scp_quorum_search.proofs.search.those_in.Given as goal

abbrev pub invariant-loop-node : goal.invariant-loop-node
invariant-loop-node l = IsSifting l.left (λ v. is_in l.nodes v ≡ false) l.found.items (take l.node-index l.left) l.node-index
