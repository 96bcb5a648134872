use Rattle.std.proofs.Common.{◌≡◌, drop}
use Rattle.scp_live_lines.specs.Timers.{runs_in}
use Rattle.scp_live_lines.proofs.timers.is_in.Given as goal

-- what is left tells it
abbrev pub invariant-loop-other : goal.invariant-loop-other
invariant-loop-other l = runs_in (drop l.other-index l.timers) l.timer ≡ runs_in l.timers l.timer
