use Rattle.std.proofs.Common.{false}
use Rattle.scp_pending.specs.Rules.{PendingView}
use Rattle.scp_pending.proofs.Hearing.{ticked}
use Rattle.scp_pending.proofs.pending.Parking.tick.Goals as goal

pub returns : goal.returns
returns c =
    let v : PendingView = record { failed = false; settled = record { me = c.self.inside.me; peers = c.self.inside.peers.items; store = c.self.inside.store; wanted = c.self.inside.fetcher; queues = c.self.inside.queues.items }; leaving = c.self.inside.leaving.items } in
    rw (← c.self.view_is) (ticked v c.miss_all.new.self c.give_up_in_order.new.queues.items c.give_up_in_order.new.leaving.items c.miss_all.ensures c.in_ok-give_up_in_order.ensures.stays c.in_ok-give_up_in_order.ensures.leaves)
