use Rattle.std.proofs.Common.{◌≡◌, ◌++◌, map, take}
use Rattle.scp_pending.specs.Queues.{dropped}
use Rattle.scp_pending.proofs.queue.drop_each.Given as goal

abbrev pub invariant-loop-i : goal.invariant-loop-i
invariant-loop-i l = l.leaving.items ≡ l.initial.leaving.items ++ map (dropped l.conn l.cause) (take l.i l.parked.items)
