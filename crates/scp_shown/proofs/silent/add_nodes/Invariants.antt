use Rattle.std.proofs.Common.{◌≡◌, fold, take}
use Rattle.std.specs.BTreeSet.{keys, insert_key}
use Rattle.scp_history.specs.scp_quorum.specs.NodeSet.{node_cmp}
use Rattle.scp_shown.proofs.silent.add_nodes.Given as goal

-- with the nodes so far
abbrev pub invariant-loop-node : goal.invariant-loop-node
invariant-loop-node l = keys l.named ≡ fold (insert_key node_cmp) (keys l.fn.named) (take l.node-index l.nodes)
