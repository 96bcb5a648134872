use Rattle.scp_pending.proofs.Placed.{open_at_each_place}
use Rattle.scp_pending.proofs.Living.{open_by_place}
use Rattle.scp_pending.proofs.laws.what_is_live_is_so_by_its_place.Goals as goal

pub returns-clause-live : goal.returns-clause-live
returns-clause-live c = open_by_place

pub returns-clause-places : goal.returns-clause-places
returns-clause-places c = open_at_each_place c.a_beginning_keeps_the_shape.ensures.front
