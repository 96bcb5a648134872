use Rattle.std.proofs.Common.{◌≡◌, ◌<◌, ℕ, false}
use Rattle.scp_live_process.specs.Closing.{is_open_at}
use Rattle.scp_live_process.proofs.starting.may_be_open.Given as goal

-- no link before is open
abbrev pub invariant-loop-link : goal.invariant-loop-link
invariant-loop-link l = (k : ℕ) → k < l.link → is_open_at l.live.node k ≡ false
