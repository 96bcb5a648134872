use Rattle.scp_nominate.proofs.Lawful.{steps_function}
use Rattle.scp_nominate.proofs.laws.the_steps_are_a_function.Goals as goal

pub returns : goal.returns
returns c = steps_function
