use Rattle.scp_epoch.proofs.Saying.{said_same}
use Rattle.scp_epoch.proofs.laws.what_is_said_the_same_is_the_same_messages.Goals as goal

pub returns : goal.returns
returns g c = record { messages = said_same g.row.D.Denot }
