use Rattle.scp_quorum.proofs.Parts.{quorums_part}
use Rattle.scp_quorum.proofs.laws.quorums_of_a_part.Goals as goal

pub returns : goal.returns
returns c = quorums_part
