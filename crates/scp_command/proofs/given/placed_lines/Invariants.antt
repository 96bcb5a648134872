use Rattle.std.proofs.Common.{◌≡◌, ◌++◌, map, drop}
use Rattle.scp_command.specs.Given.{placed}
use Rattle.scp_command.proofs.given.placed_lines.Given as goal

-- with those that are left all have their places
abbrev pub invariant-loop-line : goal.invariant-loop-line
invariant-loop-line l = l.out.items ++ map (placed l.expanded.lines) (drop l.line-index l.lines) ≡ map (placed l.expanded.lines) l.lines
