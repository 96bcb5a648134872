use Rattle.std.proofs.Common.{◌≡◌, ◌<◌, ℕ}
use Rattle.scp_again.specs.scp_outbox.specs.Handing.{waiting_at}
use Rattle.scp_epoch.proofs.same.is_quiet.Given as goal

-- nothing waits on the links so far
abbrev pub invariant-loop-link : goal.invariant-loop-link
invariant-loop-link g l = (link : ℕ) → link < l.link → waiting_at l.node.outboxes link ≡ 0
