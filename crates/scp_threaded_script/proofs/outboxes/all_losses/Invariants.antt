use Rattle.std.proofs.Common.{◌≡◌, length}
use Rattle.scp_threaded_script.proofs.outboxes.all_losses.Given as goal

-- one count for each so far
abbrev pub invariant-loop-outlets : goal.invariant-loop-outlets
invariant-loop-outlets g l = length l.losses.items ≡ l.outlets-index
