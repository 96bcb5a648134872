use Rattle.std.proofs.Common.{◌≡◌, ◌++◌, drop, string_bytes, flat_map}
use Rattle.scp_live_lines.specs.Timers.{missing_line}
use Rattle.scp_live_lines.proofs.timers.write_only.Given as goal

-- with what is left it is all
abbrev pub invariant-loop-timer : goal.invariant-loop-timer
invariant-loop-timer l = string_bytes l.text ++ flat_map (missing_line l.word l.others) (drop l.timer-index l.some) ≡ string_bytes l.initial.text ++ flat_map (missing_line l.word l.others) l.some
