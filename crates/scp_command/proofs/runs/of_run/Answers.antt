use Rattle.scp_command.proofs.Running.{run_cause}
use Rattle.scp_command.proofs.runs.of_run.Goals as goal

pub returns : goal.returns
returns c = λ input shape given bad. run_cause input c.args.given.now shape c.args.fault c.of_fault.result given bad c.of_fault.ensures
