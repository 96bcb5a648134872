use Rattle.scp_pending.proofs.Ordering.{wanted_while_waited}
use Rattle.scp_pending.proofs.laws.a_hash_is_wanted_while_something_waits.Goals as goal

pub returns : goal.returns
returns c = record { wanted = wanted_while_waited }
