use Rattle.std.proofs.Common.{◌≡◌, ◌+◌, [], ℕ, length}
use Rattle.std.specs.Prelude.{Some, slice_get}
use Rattle.scp_notices.specs.declared.commands.Queue.{Queue}
use Rattle.scp_notices.specs.inside.Queues.{left_in, left_behind}
use Rattle.scp_notices.proofs.commands.queues.Given as goal

-- those of the nodes so far
abbrev pub invariant-loop-index : goal.invariant-loop-index
invariant-loop-index l = record {
  count : length l.queues.items ≡ l.index;
  each : (place : ℕ) → (queue : Queue) → slice_get l.queues.items place ≡ Some queue → left_in queue ≡ left_behind l.told [] (place + 1);
}
