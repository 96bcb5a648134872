use Rattle.std.proofs.Common.{sym, subst}
use denote.Param.Send.{sendable}
use Rattle.std.proofs.Crossing.{crosses}
use Rattle.scp_gather.specs.scp_workers.specs.Carrying.{CourierWorking, Holds}
use Rattle.scp_gather.specs.scp_workers.proofs.Crossing.{courier_send}
use Rattle.scp_threaded_node.proofs.Crossing.{courier_ended_send}
use Rattle.scp_threaded_node.proofs.starting.start_courier.Goals as goal

pub spawn_with-requires : goal.spawn_with-requires
spawn_with-requires g c κs =
    let r = c.type_bounds.sync-R in
    let t = c.type_bounds.sync-G in
    let w = courier_send c.ends_cross_threads.ensures.crosses in
    let e = courier_ended_send c.ends_cross_threads.ensures.crosses in
    (search (sendable, crosses) depth 40, (search (sendable, crosses) depth 40, (c.requires.unused, λ left holds. subst (λ (worker : CourierWorking). Holds worker left) (sym c.of.ensures) holds)))
