use Rattle.scp_shared_outbox.specs.declared.outlets.Outlets.{Outlets}
use Rattle.scp_shared_outbox.proofs.Handing.{none_more}
use Rattle.scp_shared_outbox.proofs.making_all.none_yet.Goals as goal

pub loop-preserved : goal.loop-preserved
loop-preserved c =
    let new : Outlets = record { pend = c.new.result; slot = c.new-in-loop.result; apply = c.new-in-loop-2.result } in
    let more = none_more c.loop.outlets.items c.push.new.self.items new c.loop.counter c.in_ok-push.ensures.items (c.new.ensures.items, c.new-in-loop.ensures.items, c.new-in-loop-2.ensures.items) c.loop.invariant.many c.loop.invariant.none in
    record { many = more.0; none = more.1 }
