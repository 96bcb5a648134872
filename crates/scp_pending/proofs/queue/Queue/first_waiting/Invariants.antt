use Rattle.std.proofs.Common.{◌≡◌}
use Rattle.std.specs.VecDeque.Iter.{deque_iter_rest}
use Rattle.scp_pending.specs.Queues.{first_waiting}
use Rattle.scp_pending.proofs.queue.Queue.first_waiting.Given as goal

-- what is left shows it
abbrev pub invariant-loop-parked : goal.invariant-loop-parked
invariant-loop-parked l = first_waiting (deque_iter_rest l.parked-iterator) ≡ first_waiting l.self.parked
