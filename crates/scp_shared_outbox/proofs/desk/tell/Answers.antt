use Rattle.scp_shared_outbox.proofs.Moves.{tells}
use Rattle.scp_shared_outbox.proofs.desk.tell.Goals as goal

pub put_back-requires-clause-rule : goal.put_back-requires-clause-rule
put_back-requires-clause-rule g c = tells _ _ _ _ g.J.Said.turn c.requires.holds c.requires.mine c.requires.stands
