use Rattle.scp_core.proofs.handing.hand_out.Goals as goal

pub returns-in-Some : goal.returns-in-Some
returns-in-Some c = rw c.in-Some.is c.hand.ensures
