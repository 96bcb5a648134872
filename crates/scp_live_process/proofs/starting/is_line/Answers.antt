use Rattle.scp_live_process.proofs.starting.is_line.Goals as goal

pub returns-in-Some-clause-no : goal.returns-in-Some-clause-no
returns-in-Some-clause-no c = (_, c.in-Some.ensures.found)
