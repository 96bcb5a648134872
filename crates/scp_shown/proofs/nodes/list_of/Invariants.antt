use Rattle.std.proofs.Common.{◌≡◌, ◌++◌}
use Rattle.std.specs.BTreeSet.{keys}
use Rattle.scp_shown.proofs.nodes.list_of.Given as goal

-- with what is left they are all
abbrev pub invariant-loop-node : goal.invariant-loop-node
invariant-loop-node l = l.list.items ++ l.node-iterator ≡ keys l.nodes
