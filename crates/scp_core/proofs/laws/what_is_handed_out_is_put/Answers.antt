use Rattle.scp_core.proofs.Putting.{steps_put_all, drains_give_next}
use Rattle.scp_core.proofs.laws.what_is_handed_out_is_put.Goals as goal

pub returns-clause-puts : goal.returns-clause-puts
returns-clause-puts g c = steps_put_all g.D.Driver.says

pub returns-clause-drains : goal.returns-clause-drains
returns-clause-drains g c = drains_give_next g.D.Driver.says
