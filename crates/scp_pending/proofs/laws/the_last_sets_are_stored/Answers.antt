use Rattle.scp_pending.proofs.Fetching.{the_last_are_stored}
use Rattle.scp_pending.proofs.laws.the_last_sets_are_stored.Goals as goal

pub returns : goal.returns
returns c = record { sets = the_last_are_stored }
