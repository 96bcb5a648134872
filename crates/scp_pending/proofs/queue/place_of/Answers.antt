use Rattle.scp_pending.proofs.Places.{place_some, place_none}
use Rattle.scp_pending.proofs.queue.place_of.Goals as goal

pub returns-clause-place : goal.returns-clause-place
returns-clause-place c = place_some c.args.conn.now c.args.queues.now _ c.position_of.ensures

pub returns-clause-none : goal.returns-clause-none
returns-clause-none c = place_none c.args.conn.now c.args.queues.now _ c.position_of.ensures
