use Rattle.scp_pending.proofs.Passing.{few_are_parked as few'}
use Rattle.scp_pending.proofs.laws.few_are_parked.Goals as goal

pub returns : goal.returns
returns c = record { few = few' }
