use Rattle.scp_pending.proofs.Messaging.{added_more}
use Rattle.scp_pending.proofs.queue.add_each.Goals as goal

pub loop-p-preserved : goal.loop-p-preserved
loop-p-preserved c = added_more c.args.parked.items c.loop-p.invariant.0 c.loop-p.parked.items c.next_parked.new.parked.items c.in-Some.p c.into_message.result c.args.messages.now.items c.loop-p.messages.items c.push.new.self.items c.loop-p.invariant.1 c.in-Some.ensures.items c.loop-p.invariant.2 c.into_message.ensures c.in_ok-push.ensures.items
