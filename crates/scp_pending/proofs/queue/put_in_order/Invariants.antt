use Rattle.std.proofs.Common.{◌≡◌, length, false}
use Rattle.std.specs.List.{AllByRecursion}
use Rattle.scp_wire.specs.scp_types.specs.declared.names.Hash.{Hash}
use Rattle.scp_fetch.specs.Wants.{has_conn, waiting_for}
use Rattle.scp_pending.specs.Queues.{in_order_of, is_hash}
use Rattle.scp_pending.specs.inside.Kept.{IsQuiet}
use Rattle.scp_pending.proofs.queue.put_in_order.Given as goal

abbrev pub invariant-loop-hash : goal.invariant-loop-hash
invariant-loop-hash l = record {
  order : in_order_of l.hashes.items l.queues.items ≡ in_order_of l.initial.hashes.items l.initial.queues.items;
  quiet : (hash : Hash) → AllByRecursion (λ q. has_conn q.conn (waiting_for hash l.fetcher) ≡ false → IsQuiet (is_hash hash) q) l.queues.items;
}

abbrev pub decreases-loop-hash : goal.decreases-loop-hash
decreases-loop-hash l = length l.hashes.items
