use Rattle.scp_pending.specs.Queues.{resolved_in, is_hash}
use Rattle.scp_pending.specs.inside.Outcome.{outcome_of}
use Rattle.scp_pending.proofs.Keeping.{Went}
use Rattle.scp_pending.proofs.queue.resolve_all.Given as goal

abbrev pub invariant-loop-i : goal.invariant-loop-i
invariant-loop-i l = Went (resolved_in (is_hash l.hash) (outcome_of l.outcome)) l.i l.initial.queues.items l.queues.items l.initial.leaving.items l.leaving.items
