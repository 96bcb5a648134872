use Rattle.std.proofs.Common.{sym, subst}
use Rattle.scp_shared_outbox.specs.inside.Links.{AnyCameOut}
use Rattle.scp_shared_outbox.proofs.Back.{came_of}
use Rattle.scp_shared_outbox.proofs.taking_all.take_link.Goals as goal

pub returns-in_ok-three : goal.returns-in_ok-three
returns-in_ok-three g c =
    let arm = c.in-Some-Some-Some in
    let came = came_of arm.first arm.second arm.third c.in_ok-three.field-0.items c.args.marker.marked c.in-Some.taker.gave c.take_back-left.result c.in_ok-three.ensures c.take_back-left.ensures in
    record {
      first = arm.first;
      second = arm.second;
      third = arm.third;
      shorter = record { pend = arm.ensures.items; slot = arm.ensures'.items; apply = arm.ensures''.items };
      came = subst (AnyCameOut arm.first arm.second arm.third) (sym c.in-Some.is) came;
    }
