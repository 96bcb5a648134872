use Rattle.std.proofs.Common.{◌≡◌, ◌++◌, map, drop}
use Rattle.scp_script_short.specs.Scripts.{said}
use Rattle.scp_script_short.proofs.expanded.said_each.Given as goal

-- with what is left they are all
abbrev pub invariant-loop-line : goal.invariant-loop-line
invariant-loop-line l = l.script.items ++ map (said l.nodes) (map (λ t. t.now) (drop l.line-index l.lines)) ≡ map (said l.nodes) (map (λ t. t.now) l.lines)
