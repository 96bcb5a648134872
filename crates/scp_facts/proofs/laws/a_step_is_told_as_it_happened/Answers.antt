use Rattle.scp_facts.proofs.ToldSteps.{step_is_told}
use Rattle.scp_facts.proofs.laws.a_step_is_told_as_it_happened.Goals as goal

pub returns : goal.returns
returns c = step_is_told
