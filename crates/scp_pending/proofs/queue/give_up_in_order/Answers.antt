use Rattle.scp_pending.proofs.Keeping.{quiet_but, quiet_given}
use Rattle.scp_pending.proofs.queue.give_up_in_order.Goals as goal

pub put_in_order-requires : goal.put_in_order-requires
put_in_order-requires c = record { quiet = λ hash. quiet_but hash c.args.queues.now.items c.args.fetcher.now c.requires.kept }

pub give_up_all-requires : goal.give_up_all-requires
give_up_all-requires c = record { quiet = quiet_given c.args.queues.now.items _ c.args.fetcher.now c.in_ok-first.first.items c.in_ok-hashes.hashes.items _ c.requires.kept c.in_ok-first.ensures.hashes c.in_ok-put_in_order.ensures c.in_ok-hashes.ensures.hashes c.as_slice.ensures.value }
