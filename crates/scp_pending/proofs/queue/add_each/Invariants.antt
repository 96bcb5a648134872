use Rattle.std.proofs.Common.{◌≡◌, ◌++◌, List, length}
use Rattle.scp_pending.specs.declared.parked.Parked.{Parked}
use Rattle.scp_pending.specs.inside.Outcome.{Adds}
use Rattle.scp_pending.proofs.queue.add_each.Given as goal

abbrev pub invariant-loop-p : goal.invariant-loop-p
invariant-loop-p l = (done : List Parked) × (l.initial.parked.items ≡ done ++ l.parked.items) × Adds done l.initial.messages.items l.messages.items

abbrev pub decreases-loop-p : goal.decreases-loop-p
decreases-loop-p l = length l.parked.items
