use Rattle.std.proofs.Common.{◌≡◌, ◌++◌, []}
use Rattle.scp_pending.specs.inside.Outcome.{Adds, parked_in_all}
use Rattle.scp_pending.proofs.queue.messages_of.Given as goal

abbrev pub invariant-loop-queue : goal.invariant-loop-queue
invariant-loop-queue l = Adds (parked_in_all l.yielded) [] l.messages.items × (l.fn.queues.items ≡ l.yielded ++ l.queue-iterator.rest.items)
