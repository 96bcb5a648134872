use Rattle.scp_pending.proofs.Strangers.{no_stranger}
use Rattle.scp_pending.proofs.laws.nothing_is_of_a_stranger.Goals as goal

pub returns : goal.returns
returns c = record { links = no_stranger }
