use Rattle.scp_pending.proofs.Ordering.{waiters_in_order}
use Rattle.scp_pending.proofs.laws.who_waits_stands_in_order.Goals as goal

pub returns : goal.returns
returns c = record { order = waiters_in_order }
