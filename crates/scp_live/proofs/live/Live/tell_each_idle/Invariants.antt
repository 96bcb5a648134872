use Rattle.std.proofs.Common.{◌≡◌, ◌++◌, string_bytes}
use Rattle.scp_live.specs.Questions.{idle_lines}
use Rattle.scp_live.proofs.live.Live.tell_each_idle.Given as goal

-- the lines of the peers so far
abbrev pub invariant-loop-link : goal.invariant-loop-link
invariant-loop-link l = string_bytes l.text ≡ string_bytes l.fn.text ++ idle_lines l.self l.link
