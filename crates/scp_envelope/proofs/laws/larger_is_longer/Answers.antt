use Rattle.scp_envelope.proofs.Longer.{larger_is_longer}
use Rattle.scp_envelope.proofs.laws.larger_is_longer.Goals as goal

pub returns : goal.returns
returns c = larger_is_longer
