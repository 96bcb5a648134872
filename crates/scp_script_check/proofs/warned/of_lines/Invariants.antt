use Rattle.std.proofs.Common.{◌≡◌, ◌≤◌, ◌++◌, [], length, take, drop}
use Rattle.scp_script_check.specs.inside.Behind.{KnowsBefore}
use Rattle.scp_script_check.specs.Warnings.{line_warnings}
use Rattle.scp_script_check.proofs.warned.of_lines.Given as goal

-- with what is left it is all
abbrev pub invariant-loop-index : goal.invariant-loop-index
invariant-loop-index l = record {
  within : l.index ≤ length l.commands;
  known : KnowsBefore l.before (take l.index l.commands);
  with_rest : l.out.items ++ line_warnings l.whole.turns.now l.commands (take l.index l.commands) (drop l.index l.lines) (drop l.index l.commands) ≡ line_warnings l.whole.turns.now l.commands [] l.lines l.commands;
}
