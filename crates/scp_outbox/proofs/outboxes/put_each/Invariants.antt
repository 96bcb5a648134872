use Rattle.scp_outbox.proofs.Putting.{PutBelow}
use Rattle.scp_outbox.proofs.outboxes.put_each.Given as goal

abbrev pub invariant-loop-outbox : goal.invariant-loop-outbox
invariant-loop-outbox l = PutBelow l.fn.outboxes.items l.message l.outbox-index l.outbox-items
