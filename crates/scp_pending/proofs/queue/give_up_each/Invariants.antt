use Rattle.std.proofs.Common.{◌≡◌, ◌++◌, map, take, drop}
use Rattle.scp_pending.specs.Queues.{resolved_one, lost_by}
use Rattle.scp_pending.specs.Rules.{is_given_up}
use Rattle.scp_pending.specs.declared.ready.DropCause.TheVariants.{GaveUp}
use Rattle.scp_pending.proofs.queue.give_up_each.Given as goal

abbrev pub invariant-loop-i : goal.invariant-loop-i
invariant-loop-i l = l.parked.items ≡ drop l.i l.initial.parked.items ++ map (resolved_one (is_given_up l.fetcher) (lost_by GaveUp)) (take l.i l.initial.parked.items)
