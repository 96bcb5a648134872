use Rattle.scp_ballot_rules.proofs.Lawful.{step_licensed}
use Rattle.scp_ballot_rules.proofs.laws.a_step_is_licensed.Goals as goal

pub returns : goal.returns
returns c = step_licensed
