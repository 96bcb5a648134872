use Rattle.scp_shared_outbox.proofs.Moves.{takes_out}
use Rattle.scp_shared_outbox.proofs.desk.take_out.Goals as goal

pub try_pop_as-requires-clause-rule : goal.try_pop_as-requires-clause-rule
try_pop_as-requires-clause-rule g c = takes_out _ _
