use Rattle.scp_outbox.proofs.WaitingOn.{none_owed, put, mark_left}
use Rattle.scp_outbox.proofs.GivingOn.{gives}
use Rattle.scp_outbox.proofs.sending.what_is_given_was_handed_out.Goals as goal

pub returns : goal.returns
returns c = record { empty = none_owed; puts = put c.one_statement_waits_of_each_slot_and_kind.ensures.takes; gives = gives; marks = mark_left }
