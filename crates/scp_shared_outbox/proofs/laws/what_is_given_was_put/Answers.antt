use Rattle.scp_shared_outbox.proofs.Given.{given_was_put}
use Rattle.scp_shared_outbox.proofs.laws.what_is_given_was_put.Goals as goal

pub returns : goal.returns
returns c = let known = c.what_is_given_was_put.ensures in record { put = given_was_put known.put known.given known.left }
