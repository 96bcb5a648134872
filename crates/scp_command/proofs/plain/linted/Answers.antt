use Rattle.scp_command.proofs.Causing.{plain_cause}
use Rattle.scp_command.proofs.plain.linted.Goals as goal

pub returns-in-Err-clause-cause : goal.returns-in-Err-clause-cause
returns-in-Err-clause-cause c = plain_cause c.args.text.now c.in-Err.fault c.failure_of.result c.in-Err.ensures.cause c.failure_of.ensures
