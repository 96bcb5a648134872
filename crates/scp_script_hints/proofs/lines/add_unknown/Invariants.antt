use Rattle.std.proofs.Common.{◌≡◌, ◌++◌, drop}
use Rattle.scp_script_hints.specs.Hints.{unknown_hints}
use Rattle.scp_script_hints.proofs.lines.add_unknown.Given as goal

-- with what is left it is all
abbrev pub invariant-loop-node : goal.invariant-loop-node
invariant-loop-node l = l.out.items ++ unknown_hints l.count l.line (drop l.node-index l.nodes) ≡ l.initial.out.items ++ unknown_hints l.count l.line l.nodes
