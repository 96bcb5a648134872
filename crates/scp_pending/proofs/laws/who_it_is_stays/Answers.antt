use Rattle.scp_pending.proofs.Strangers.{who_it_is}
use Rattle.scp_pending.proofs.laws.who_it_is_stays.Goals as goal

pub returns : goal.returns
returns c = record { config = who_it_is }
