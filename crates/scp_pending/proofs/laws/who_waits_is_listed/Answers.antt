use Rattle.scp_pending.proofs.Passing.{waiters_wait}
use Rattle.scp_pending.proofs.laws.who_waits_is_listed.Goals as goal

pub returns : goal.returns
returns c = record { listed = waiters_wait }
