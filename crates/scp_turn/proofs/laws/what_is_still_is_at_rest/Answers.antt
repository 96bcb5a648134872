use Rattle.scp_turn.proofs.AtRest.{still_is_at_rest}
use Rattle.scp_turn.proofs.laws.what_is_still_is_at_rest.Goals as goal

pub returns : goal.returns
returns g c = still_is_at_rest g.D.Driver.says
