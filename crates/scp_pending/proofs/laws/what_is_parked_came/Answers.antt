use Rattle.scp_pending.proofs.Messaging.{parked_stand_for}
use Rattle.scp_pending.proofs.laws.what_is_parked_came.Goals as goal

pub returns : goal.returns
returns c = record { parked = parked_stand_for }
