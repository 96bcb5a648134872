use Rattle.scp_apply.proofs.Next.{next_can_be_taken}
use Rattle.scp_apply.proofs.laws.the_next_decision_can_be_taken.Goals as goal

pub returns : goal.returns
returns c = next_can_be_taken
