use Rattle.std.proofs.Common.{◌≡◌, take, map}
use Rattle.scp_quorum_search.proofs.order.nodes_of.Given as goal

abbrev pub invariant-loop-one : goal.invariant-loop-one
invariant-loop-one l = l.nodes.items ≡ map (λ r. r.node) (take l.one-index l.ranked)
