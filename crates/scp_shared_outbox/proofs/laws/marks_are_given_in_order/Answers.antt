use Rattle.scp_shared_outbox.proofs.Given.{marks_come_in_order}
use Rattle.scp_shared_outbox.proofs.laws.marks_are_given_in_order.Goals as goal

pub returns : goal.returns
returns c = record { order = marks_come_in_order }
