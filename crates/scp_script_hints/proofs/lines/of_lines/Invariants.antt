use Rattle.std.proofs.Common.{◌≡◌, ◌≤◌, ◌++◌, [], length, take, drop}
use Rattle.scp_script_hints.specs.inside.Behind.{KnowsBefore}
use Rattle.scp_script_hints.specs.Hints.{line_hints}
use Rattle.scp_script_hints.proofs.lines.of_lines.Given as goal

-- with what is left it is all
abbrev pub invariant-loop-index : goal.invariant-loop-index
invariant-loop-index l = record {
  within : l.index ≤ length l.commands;
  known : KnowsBefore l.before (take l.index l.commands);
  with_rest : l.out.items ++ line_hints l.commands (take l.index l.commands) (drop l.index l.lines) (drop l.index l.commands) ≡ line_hints l.commands [] l.lines l.commands;
}
