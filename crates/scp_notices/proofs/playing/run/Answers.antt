use Rattle.scp_notices.proofs.playing.run.Goals as goal

pub returns-in-Ok-clause-ran : goal.returns-in-Ok-clause-ran
returns-in-Ok-clause-ran c = c.in-Ok.ensures.ran.0
