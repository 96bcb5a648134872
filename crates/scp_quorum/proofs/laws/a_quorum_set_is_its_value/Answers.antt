use Rattle.scp_quorum.proofs.SetValues.{set_again, set_value_again}
use Rattle.scp_quorum.proofs.laws.a_quorum_set_is_its_value.Goals as goal

pub returns-clause-set : goal.returns-clause-set
returns-clause-set c = set_again

pub returns-clause-value : goal.returns-clause-value
returns-clause-value c = set_value_again
