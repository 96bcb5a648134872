use Rattle.scp_line.proofs.nodes.act.Goals as goal

pub returns-in-Ok : goal.returns-in-Ok
returns-in-Ok c = (_, _, _, c.in-Ok.ensures)

pub returns-in-Err : goal.returns-in-Err
returns-in-Err c = (_, _, c.in-Err.ensures)
