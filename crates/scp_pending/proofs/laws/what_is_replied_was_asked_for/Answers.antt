use Rattle.scp_pending.proofs.Fetching.{replies_are_asked_for}
use Rattle.scp_pending.proofs.laws.what_is_replied_was_asked_for.Goals as goal

pub returns : goal.returns
returns c = record { replies = replies_are_asked_for }
