use Rattle.scp_shared_outbox.proofs.Handing.{AreMadeSoFar}
use Rattle.scp_shared_outbox.proofs.making_all.make_all.Given as goal

abbrev pub invariant-loop-index : goal.invariant-loop-index
invariant-loop-index l = AreMadeSoFar l.count l.index l.outlets.items l.markers.items l.takers.items
