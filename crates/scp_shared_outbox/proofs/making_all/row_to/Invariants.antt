use Rattle.scp_shared_outbox.proofs.Handing.{IsRowSoFar}
use Rattle.scp_shared_outbox.proofs.making_all.row_to.Given as goal

abbrev pub invariant-loop-index : goal.invariant-loop-index
invariant-loop-index l = IsRowSoFar l.to l.index l.fn.outlets.items l.outlets.items l.markers.items l.takers.items
