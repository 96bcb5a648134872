use Rattle.scp_command.proofs.Running.{threads_cause}
use Rattle.scp_command.proofs.runs.of_threads.Goals as goal

pub returns : goal.returns
returns c = λ input shape given bad. threads_cause input c.args.given.now shape c.args.fault c.of_fault.result given bad c.of_fault.ensures
