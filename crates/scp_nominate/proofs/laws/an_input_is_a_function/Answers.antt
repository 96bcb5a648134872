use Rattle.scp_nominate.proofs.Lawful.{coming_one, hearing_one}
use Rattle.scp_nominate.proofs.laws.an_input_is_a_function.Goals as goal

pub returns-clause-coming : goal.returns-clause-coming
returns-clause-coming g c = coming_one

pub returns-clause-hearing : goal.returns-clause-hearing
returns-clause-hearing g c = hearing_one
