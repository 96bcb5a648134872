use Rattle.scp_core.proofs.Putting.{on_err}
use Rattle.scp_core.proofs.handing.hand_out_one.Goals as goal

pub returns-in-ToAll-clause-hands : goal.returns-in-ToAll-clause-hands
returns-in-ToAll-clause-hands c = rw c.in-ToAll.is c.hand_to_all.ensures.hands

pub returns-in-ToAll-clause-to_all : goal.returns-in-ToAll-clause-to_all
returns-in-ToAll-clause-to_all c = rw c.in-ToAll.is (on_err _ c.hand_to_all.result tt)

pub returns-in-To-clause-hands : goal.returns-in-To-clause-hands
returns-in-To-clause-hands c = rw c.in-To.is c.hand.ensures
