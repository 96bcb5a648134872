use Rattle.scp_gather.proofs.Travelling.{carried_is_sent_out}
use Rattle.scp_gather.proofs.travel.what_is_carried_is_sent_out.Goals as goal

pub returns : goal.returns
returns c = carried_is_sent_out c.what_is_given_was_put.ensures.put c.statements_are_given_in_order.ensures.order
