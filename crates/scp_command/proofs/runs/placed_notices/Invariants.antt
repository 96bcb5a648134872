use Rattle.std.proofs.Common.{◌≡◌, map}
use Rattle.scp_command.specs.Answers.{placed_notice}
use Rattle.scp_command.proofs.runs.placed_notices.Given as goal

-- those so far have their lines
abbrev pub invariant-loop-notice : goal.invariant-loop-notice
invariant-loop-notice l = l.out.items ≡ map (placed_notice l.expanded.lines) l.yielded
