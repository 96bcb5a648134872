use Rattle.scp_live_config.proofs.Refuting.{refuted}
use Rattle.scp_live_config.proofs.laws.what_is_wrong_says_nothing.Goals as goal

pub returns : goal.returns
returns c = refuted
