use denote.Param.{copied}
use denote.Param.Send.{sendable}
use Rattle.std.proofs.Crossing.{crosses}
use Rattle.scp_threaded_node.proofs.Crossing.{its_ready_send, its_slots_send}
use Rattle.scp_threaded_node.proofs.node.start_last.Goals as goal

pub start_worker-requires-send-T : goal.start_worker-requires-send-T
start_worker-requires-send-T g c κs within = let ready = its_ready_send in search (sendable, crosses) depth 40

pub start_worker-requires-send-S : goal.start_worker-requires-send-S
start_worker-requires-send-S g c κs within = let stage = its_slots_send (copied 3 g.row.A) g.A.Driver c.type_bounds.send-A in search (sendable, crosses) depth 40
