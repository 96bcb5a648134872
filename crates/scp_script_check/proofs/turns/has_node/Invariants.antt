use Rattle.std.proofs.Common.{◌≡◌, drop}
use Rattle.scp_script_check.specs.Warnings.{has_node}
use Rattle.scp_script_check.proofs.turns.has_node.Given as goal

-- what is left tells it
abbrev pub invariant-loop-other : goal.invariant-loop-other
invariant-loop-other l = has_node (drop l.other-index l.nodes) l.node ≡ has_node l.nodes l.node
