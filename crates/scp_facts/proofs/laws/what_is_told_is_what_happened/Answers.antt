use Rattle.scp_facts.proofs.ToldSteps.{told_is_what_happened}
use Rattle.scp_facts.proofs.laws.what_is_told_is_what_happened.Goals as goal

pub returns : goal.returns
returns c = told_is_what_happened
