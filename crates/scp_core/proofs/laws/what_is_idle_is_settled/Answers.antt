use Rattle.scp_core.proofs.Idling.{idle_is_settled}
use Rattle.scp_core.proofs.laws.what_is_idle_is_settled.Goals as goal

pub returns : goal.returns
returns g c = record { settled = idle_is_settled g.D.Driver.says }
