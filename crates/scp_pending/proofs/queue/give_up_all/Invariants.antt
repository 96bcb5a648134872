use Rattle.scp_pending.specs.Queues.{resolved_in, lost_by}
use Rattle.scp_pending.specs.Rules.{is_given_up}
use Rattle.scp_pending.specs.declared.ready.DropCause.TheVariants.{GaveUp}
use Rattle.scp_pending.proofs.Keeping.{Went}
use Rattle.scp_pending.proofs.queue.give_up_all.Given as goal

abbrev pub invariant-loop-i : goal.invariant-loop-i
invariant-loop-i l = Went (resolved_in (is_given_up l.fetcher) (lost_by GaveUp)) l.i l.initial.queues.items l.queues.items l.initial.leaving.items l.leaving.items
