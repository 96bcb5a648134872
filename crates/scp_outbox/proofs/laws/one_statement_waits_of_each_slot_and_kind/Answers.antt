use Rattle.scp_outbox.proofs.OneEach.{one_each_takes}
use Rattle.scp_outbox.proofs.Kept.{puts_known, gives_known}
use Rattle.scp_outbox.proofs.laws.one_statement_waits_of_each_slot_and_kind.Goals as goal

pub returns-clause-takes : goal.returns-clause-takes
returns-clause-takes c = one_each_takes

pub returns-clause-put : goal.returns-clause-put
returns-clause-put c = puts_known

pub returns-clause-given : goal.returns-clause-given
returns-clause-given c = gives_known
