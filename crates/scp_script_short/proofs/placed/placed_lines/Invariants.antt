use Rattle.std.proofs.Common.{◌≡◌, ◌++◌, ◌+◌, drop}
use Rattle.scp_script_short.specs.Scripts.{placed_from}
use Rattle.scp_script_short.proofs.placed.placed_lines.Given as goal

-- with what is left they are all
abbrev pub invariant-loop-index : goal.invariant-loop-index
invariant-loop-index l = l.placed.items ++ placed_from (l.index + 1) (drop l.index l.script) ≡ placed_from 1 l.script
