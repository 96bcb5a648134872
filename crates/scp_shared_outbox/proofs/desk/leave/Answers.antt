use Rattle.scp_shared_outbox.proofs.Moves.{leaves}
use Rattle.scp_shared_outbox.proofs.desk.leave.Goals as goal

pub put_back-requires-clause-rule : goal.put_back-requires-clause-rule
put_back-requires-clause-rule g c = leaves _ _ _ _ c.requires.holds c.requires.stands
