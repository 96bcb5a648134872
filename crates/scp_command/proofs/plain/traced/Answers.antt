use Rattle.scp_command.proofs.Causing.{plain_cause}
use Rattle.scp_command.proofs.Standing.{telling_traced}
use Rattle.scp_command.proofs.plain.traced.Goals as goal

pub returns-in-Ok-clause-told : goal.returns-in-Ok-clause-told
returns-in-Ok-clause-told c = telling_traced c.args.depth c.args.text.now c.in-Ok.traced c.telling_of_run.result c.in-Ok.ensures.told c.telling_of_run.ensures.told

pub returns-in-Err-clause-cause : goal.returns-in-Err-clause-cause
returns-in-Err-clause-cause c = plain_cause c.args.text.now c.in-Err.fault c.failure_of.result c.in-Err.ensures.cause c.failure_of.ensures
