use Rattle.std.proofs.Common.{◌≡◌, ◌++◌, map, take, drop}
use Rattle.scp_pending.specs.Queues.{resolved_one, is_hash}
use Rattle.scp_pending.specs.inside.Outcome.{outcome_of}
use Rattle.scp_pending.proofs.queue.settle_each.Given as goal

abbrev pub invariant-loop-i : goal.invariant-loop-i
invariant-loop-i l = l.parked.items ≡ map (resolved_one (is_hash l.hash) (outcome_of l.outcome)) (take l.i l.initial.parked.items) ++ drop l.i l.initial.parked.items
