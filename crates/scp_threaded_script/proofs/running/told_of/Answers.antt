use Rattle.scp_threaded_script.proofs.Ending.{told_by_end}
use Rattle.scp_threaded_script.proofs.running.told_of.Goals as goal

pub returns-in-Ok-clause-given_up : goal.returns-in-Ok-clause-given_up
returns-in-Ok-clause-given_up c = λ count refused numbered line told. told_by_end count refused c.args.told told
