use Rattle.scp_pending.proofs.Passing.{IsSettled-of}
use Rattle.scp_pending.proofs.laws.what_has_nothing_ready_is_settled.Goals as goal

pub returns : goal.returns
returns c = record { settled = IsSettled-of }
