use Rattle.std.proofs.Common.{◌≡◌, ◌++◌}
use Rattle.scp_script_short.specs.Scripts.{placed_at}
use Rattle.scp_script_short.proofs.placed.add_placed.Given as goal

-- those so far were added
abbrev pub invariant-loop-line : goal.invariant-loop-line
invariant-loop-line l = l.placed.items ≡ l.initial.placed.items ++ placed_at l.place l.yielded
