use Rattle.scp_quorum.proofs.Parts.{more_block}
use Rattle.scp_quorum.proofs.laws.blocking_is_monotone.Goals as goal

pub returns : goal.returns
returns c = more_block
