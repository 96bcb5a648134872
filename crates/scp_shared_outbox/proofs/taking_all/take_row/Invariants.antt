use Rattle.std.proofs.Common.{◌<◌, List, length}
use Rattle.scp_outbox.specs.scp_types.specs.declared.limits.TheConstants.{NODE_LIMIT}
use Rattle.scp_shared_outbox.specs.declared.outlets.Outlets.{Outlets}
use Rattle.scp_shared_outbox.specs.inside.Links.{ArePairs, StandLast, TookFrom}
use Rattle.scp_shared_outbox.proofs.taking_all.take_row.Given as goal

-- what is taken in of the links that are left is all that is missing
abbrev pub invariant-loop-marker : goal.invariant-loop-marker
invariant-loop-marker g l = record {
  few : length l.markers.items < NODE_LIMIT;
  last : StandLast l.to l.outlets.items l.markers.items l.takers.items;
  rest : (final : List Outlets) → ArePairs (TookFrom l.to l.takers.items) l.outlets.items final → ArePairs (TookFrom l.to l.fn.takers.items) l.fn.outlets.items final;
}

abbrev pub decreases-loop-marker : goal.decreases-loop-marker
decreases-loop-marker g l = length l.markers.items
