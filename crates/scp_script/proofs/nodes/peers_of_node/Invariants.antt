use Rattle.std.proofs.Common.{◌≡◌}
use Rattle.scp_script.specs.Nodes.{peers_of}
use Rattle.scp_script.proofs.nodes.peers_of_node.Given as goal

abbrev pub invariant-loop-index : goal.invariant-loop-index
invariant-loop-index l = l.peers.items ≡ peers_of l.index l.node
