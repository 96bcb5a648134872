use Rattle.scp_quorum.proofs.Parts.{none_blocks}
use Rattle.scp_quorum.proofs.laws.none_blocks_none.Goals as goal

pub returns : goal.returns
returns c = none_blocks
