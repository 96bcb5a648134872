use Rattle.scp_ends.proofs.Moves.{gets}
use Rattle.scp_ends.proofs.ends.Rx.try_recv_as.Goals as goal

pub look-requires-clause-rule : goal.look-requires-clause-rule
look-requires-clause-rule g c = (gets g.L.Law.fits g.L.Law.before _ _ c.self.invariant.1, λ items views h at. tt)
