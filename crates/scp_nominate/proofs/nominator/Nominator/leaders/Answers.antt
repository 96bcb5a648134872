use Rattle.scp_nominate.proofs.nominator.Nominator.leaders.Goals as goal

pub returns-clause-leaders : goal.returns-clause-leaders
returns-clause-leaders g c = λ sound runs node. rw c.as_slice.ensures.value ((sound runs).leaders node)
