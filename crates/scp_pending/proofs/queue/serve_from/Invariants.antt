use Rattle.std.proofs.Common.{◌≡◌, ◌++◌, length}
use Rattle.scp_pending.specs.Queues.{leaves_behind, stays_behind, leaves_of, stays_of}
use Rattle.scp_pending.proofs.queue.serve_from.Given as goal

abbrev pub invariant-loop-p : goal.invariant-loop-p
invariant-loop-p l = record {
  stays : l.kept.items ++ stays_behind l.kept.items l.parked.items ≡ stays_of l.initial.parked.items;
  leaves : l.leaving.items ++ leaves_behind l.conn l.kept.items l.parked.items ≡ l.initial.leaving.items ++ leaves_of l.conn l.initial.parked.items;
}

abbrev pub decreases-loop-p : goal.decreases-loop-p
decreases-loop-p l = length l.parked.items
