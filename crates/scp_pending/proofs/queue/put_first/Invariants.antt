use Rattle.std.proofs.Common.{◌≡◌, not, false}
use Rattle.std.specs.Prelude.{filter}
use Rattle.std.specs.List.{AllByRecursion}
use Rattle.scp_fetch.specs.Wants.{has_conn}
use Rattle.scp_pending.specs.Queues.{is_head_waiting, is_hash}
use Rattle.scp_pending.specs.inside.Kept.{IsQuiet}
use Rattle.scp_pending.proofs.queue.put_first.Given as goal

abbrev pub invariant-loop-queue : goal.invariant-loop-queue
invariant-loop-queue l = record {
  came : l.first.items ≡ filter (λ q. is_head_waiting l.hash q.parked) l.yielded;
  stood : l.rest.items ≡ filter (λ q. not (is_head_waiting l.hash q.parked)) l.yielded;
  quiet : AllByRecursion (λ q. has_conn q.conn l.conns ≡ false → IsQuiet (is_hash l.hash) q) l.queue-iterator.rest.items;
}
