use Rattle.scp_outbox.proofs.Giving.{gives_take_one, messages_while_live}
use Rattle.scp_outbox.proofs.laws.what_is_given_is_gone.Goals as goal

pub returns-clause-gone : goal.returns-clause-gone
returns-clause-gone c = gives_take_one

pub returns-clause-live : goal.returns-clause-live
returns-clause-live c = messages_while_live
