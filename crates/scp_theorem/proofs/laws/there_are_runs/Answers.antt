use Rattle.scp_theorem.proofs.Running.{nothing_sent_ran}
use Rattle.scp_theorem.proofs.laws.there_are_runs.Goals as goal

pub returns : goal.returns
returns g c = nothing_sent_ran g.D.Driver.says.level g.D.Driver.says.extracted g.D.Driver.says.combined g.D.Driver.says.place
