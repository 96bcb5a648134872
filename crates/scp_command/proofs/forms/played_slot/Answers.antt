use Rattle.scp_command.proofs.forms.played_slot.Goals as goal

pub returns-in-Ok-clause-answer : goal.returns-in-Ok-clause-answer
returns-in-Ok-clause-answer c = (c.in_ok-script.script, c.in-Ok.ensures.played)
