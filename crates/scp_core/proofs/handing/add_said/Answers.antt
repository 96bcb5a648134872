use Rattle.scp_core.proofs.Putting.{on_err}
use Rattle.scp_core.proofs.handing.add_said.Goals as goal

pub returns-in-ToAll-clause-adds : goal.returns-in-ToAll-clause-adds
returns-in-ToAll-clause-adds c = rw c.in-ToAll.is c.add_shared.ensures

pub returns-in-ToAll-clause-to_all : goal.returns-in-ToAll-clause-to_all
returns-in-ToAll-clause-to_all c = rw c.in-ToAll.is (on_err _ c.add_shared.result tt)
