use Rattle.scp_outbox.proofs.Putting.{nothing_changes, turns_add_up}
use Rattle.scp_outbox.proofs.sending.what_is_handed_out_adds_up.Goals as goal

pub returns-clause-none : goal.returns-clause-none
returns-clause-none c = nothing_changes

pub returns-clause-turns : goal.returns-clause-turns
returns-clause-turns c = turns_add_up
