use Rattle.std.proofs.Common.{◌≡◌, length}
use Rattle.scp_threaded_script.proofs.outboxes.losses_of.Given as goal

-- one count for each so far
abbrev pub invariant-loop-putter : goal.invariant-loop-putter
invariant-loop-putter g l = length l.losses.items ≡ l.putter-index
