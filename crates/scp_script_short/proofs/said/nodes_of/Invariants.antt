use Rattle.std.proofs.Common.{◌≡◌, map, drop}
use Rattle.scp_script_short.specs.Scripts.{nodes_of}
use Rattle.scp_script_short.proofs.said.nodes_of.Given as goal

-- the lines so far say nothing
abbrev pub invariant-loop-line : goal.invariant-loop-line
invariant-loop-line l = nodes_of (map (λ t. t.now) (drop l.line-index l.lines)) ≡ nodes_of (map (λ t. t.now) l.lines)
