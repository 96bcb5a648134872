use Rattle.std.proofs.Common.{length}
use Rattle.scp_shared_outbox.specs.Table.{AllCameOut}
use Rattle.scp_shared_outbox.proofs.Rows.{AreLeft, FirstCameOut}
use Rattle.scp_shared_outbox.proofs.taking_all.take_all_back.Given as goal

-- what came out over the links that are left is all that is missing
abbrev pub invariant-loop-row : goal.invariant-loop-row
invariant-loop-row g l = record {
  left : AreLeft l.count (length l.markers.items) l.outlets.items l.markers.items l.takers.items;
  rest : FirstCameOut l.count (length l.markers.items) l.outlets.items l.takers.items → AllCameOut l.count l.fn.outlets.items l.fn.takers.items;
}

abbrev pub decreases-loop-row : goal.decreases-loop-row
decreases-loop-row g l = length l.markers.items
