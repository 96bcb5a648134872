use Rattle.scp_ballot_rules.proofs.Lawful.{rest_owes}
use Rattle.scp_ballot_rules.proofs.laws.rest_owes_nothing.Goals as goal

pub returns : goal.returns
returns c = rest_owes
