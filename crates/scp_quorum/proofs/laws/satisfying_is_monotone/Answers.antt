use Rattle.scp_quorum.proofs.Blocking.{Satisfies-within}
use Rattle.scp_quorum.proofs.laws.satisfying_is_monotone.Goals as goal

pub returns : goal.returns
returns c = Satisfies-within
