use Rattle.scp_outbox.proofs.Waiting.{put_adds, given_waited, give_adds_nothing}
use Rattle.scp_outbox.proofs.laws.what_is_given_was_put.Goals as goal

pub returns-clause-put : goal.returns-clause-put
returns-clause-put c = put_adds

pub returns-clause-given : goal.returns-clause-given
returns-clause-given c = given_waited

pub returns-clause-left : goal.returns-clause-left
returns-clause-left c = give_adds_nothing
