use denote.Param.{param}
use denote.Param.Send.{sendable, IsSend, view_send}
use denote.Param.SendFields.{declared_send}
use Rattle.std.proofs.Crossing.{crosses}
use Rattle.scp_gather.specs.scp_ends.proofs.ends.Tx.TheSendSync as txs
use Rattle.scp_gather.specs.scp_ends.proofs.ends.Rx.TheSendSync as rxs
use Rattle.scp_gather.specs.scp_ends.proofs.ends.Done.TheSendSync as dones
use Rattle.scp_gather.specs.scp_ends.proofs.ends.Nobody.TheSendSync as nobodies
use Rattle.scp_gather.specs.scp_ends.proofs.gate.Counter.TheSendSync as counters
use Rattle.scp_gather.specs.scp_workers.specs.contracts.worker.Worker as worker
use Rattle.scp_gather.specs.scp_workers.specs.contracts.worker.Worker.TheInside as worker_inside
use Rattle.scp_gather.specs.scp_workers.specs.contracts.worker.Ended as ended
use Rattle.scp_gather.specs.scp_workers.specs.contracts.worker.Ended.TheInside as ended_inside
use Rattle.scp_threaded_node.proofs.starting.start_worker.Goals as goal

ruleset ends = (sendable, crosses, txs.the_send, rxs.the_send, dones.the_send, nobodies.the_send)

-- the worker crosses, field by field: its ends, its stage, its outboxes, its counts
pub spawn_with-requires-send-F : goal.spawn_with-requires-send-F
spawn_with-requires-send-F g c κs within =
    let rt = c.type_bounds.sync-R in
    let gate = c.type_bounds.sync-G in
    let things = c.type_bounds.send-T in
    let law = c.type_bounds.send-L in
    let given = c.type_bounds.send-U in
    let law_behind = c.type_bounds.send-M in
    let stage = c.type_bounds.send-S in
    let putter = c.ends_cross_threads.ensures.crosses.putter in
    let it : IsSend (worker.the_row (param 3 g.row.T) (param 4 g.row.L) (param 5 g.row.U) (param 6 g.row.M) (param 7 g.row.S) g.L.Law g.M.Law g.S.Stage) =
    view_send _ _ _ _ _ (declared_send (worker_inside.the_type (param 3 g.row.T) (param 4 g.row.L) (param 5 g.row.U) (param 6 g.row.M) (param 7 g.row.S) g.L.Law g.M.Law g.S.Stage)
    (search ends depth 20, (search ends depth 20, (search sendable depth 20, (search ends depth 20, (search (sendable, crosses) depth 20, (search sendable depth 20, (search ends depth 20, (counters.the_send, (search sendable depth 20, (search ends depth 20, tt))))))))))) in
    search (sendable, crosses) depth 40

pub spawn_with-requires-send-T : goal.spawn_with-requires-send-T
spawn_with-requires-send-T g c κs within =
    let things = c.type_bounds.send-T in
    let law = c.type_bounds.send-L in
    let given = c.type_bounds.send-U in
    let law_behind = c.type_bounds.send-M in
    let stage = c.type_bounds.send-S in
    let putter = c.ends_cross_threads.ensures.crosses.putter in
    let it : IsSend (ended.the_row (param 3 g.row.T) (param 4 g.row.L) (param 5 g.row.U) (param 6 g.row.M) (param 7 g.row.S) g.L.Law g.M.Law g.S.Stage) =
    view_send _ _ _ _ _ (declared_send (ended_inside.the_type (param 3 g.row.T) (param 4 g.row.L) (param 5 g.row.U) (param 6 g.row.M) (param 7 g.row.S) g.L.Law g.M.Law g.S.Stage)
    (search ends depth 20, (search ends depth 20, (search (sendable, crosses) depth 20, (search ends depth 20, (search sendable depth 20, (search sendable depth 20, (search ends depth 20, (search ends depth 20, tt))))))))) in
    search (sendable, crosses) depth 40
