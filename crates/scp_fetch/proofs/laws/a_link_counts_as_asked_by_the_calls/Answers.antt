use Rattle.scp_fetch.proofs.Calls.{asked_by_the_calls}
use Rattle.scp_fetch.proofs.laws.a_link_counts_as_asked_by_the_calls.Goals as goal

pub returns : goal.returns
returns c = record { asked = asked_by_the_calls }
