use Rattle.std.proofs.Common.{◌≡◌, ◌+◌, take, count_by, ◌==◌}
use Rattle.scp_live_config.proofs.read.line_behind.Given as goal

abbrev pub invariant-loop-byte : goal.invariant-loop-byte
invariant-loop-byte l = l.line ≡ 1 + count_by (λ b. b == 10) (take l.byte-index l.before)
