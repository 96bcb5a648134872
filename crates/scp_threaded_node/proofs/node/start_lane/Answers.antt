use denote.Param.Send.{sendable}
use Rattle.std.proofs.Crossing.{crosses}
use Rattle.scp_gather.specs.scp_ends.proofs.Crossing.{inbound_send}
use Rattle.scp_threaded_node.proofs.Crossing.{its_reading_send}
use Rattle.scp_threaded_node.proofs.node.start_lane.Goals as goal

pub start_worker-requires-send-U : goal.start_worker-requires-send-U
start_worker-requires-send-U g c κs within = let inbound = inbound_send in search (sendable, crosses) depth 40

pub start_worker-requires-send-S : goal.start_worker-requires-send-S
start_worker-requires-send-S g c κs within = let stage = its_reading_send in search (sendable, crosses) depth 40
