use Rattle.scp_outbox.proofs.WaitingOn.{empty, puts}
use Rattle.scp_outbox.proofs.GivingOn.{gives_next, marks, sends_are_sent}
use Rattle.scp_outbox.proofs.sending.what_is_sent_was_handed_out.Goals as goal

pub returns : goal.returns
returns c = record { empty = empty; puts = puts c.one_statement_waits_of_each_slot_and_kind.ensures.takes; gives = gives_next; marks = marks; sent = sends_are_sent }
