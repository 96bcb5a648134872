use Rattle.scp_shared_outbox.proofs.InOrder.{statements_go_in_order}
use Rattle.scp_shared_outbox.proofs.laws.statements_are_given_in_order.Goals as goal

pub returns : goal.returns
returns c = let known = c.what_is_given_was_handed_out.ensures in record { order = statements_go_in_order known.empty known.puts known.gives known.marks }
