use Rattle.std.proofs.Common.{◌≡◌, ◌++◌, drop, string_bytes}
use Rattle.scp_live_lines.specs.Timers.{running}
use Rattle.scp_live_lines.proofs.timers.write_running.Given as goal

-- with what is left it is all
abbrev pub invariant-loop-timer : goal.invariant-loop-timer
invariant-loop-timer l = string_bytes l.text ++ running (drop l.timer-index l.timers) ≡ string_bytes l.initial.text ++ running l.timers
