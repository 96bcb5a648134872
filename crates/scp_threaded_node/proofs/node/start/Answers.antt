use denote.Param.Send.{sendable}
use Rattle.std.proofs.Common.{◌∙◌}
use Rattle.std.proofs.Crossing.{crosses}
use Rattle.scp_gather.specs.scp_ends.proofs.Crossing.{inbound_send}
use Rattle.scp_threaded_node.proofs.Crossing.{its_ready_send, its_pending_send}
use Rattle.scp_threaded_node.proofs.node.start.Goals as goal

pub start_worker-requires-send-T : goal.start_worker-requires-send-T
start_worker-requires-send-T g c κs within = let inbound = inbound_send in search (sendable, crosses) depth 40

pub start_worker-requires-send-U : goal.start_worker-requires-send-U
start_worker-requires-send-U g c κs within = let ready = its_ready_send in search (sendable, crosses) depth 40

pub start_worker-requires-send-S : goal.start_worker-requires-send-S
start_worker-requires-send-S g c κs within = let stage = its_pending_send in search (sendable, crosses) depth 40

pub returns-in-Ok-clause-runs : goal.returns-in-Ok-clause-runs
returns-in-Ok-clause-runs g c = λ me set peers caps len lanes local stages.
    let p = c.in_ok-pend.ensures.worker in
    let s = c.in-Ok.ensures.slot in
    let a = c.in-Ok.ensures.apply in
    record {
      count = c.in_ok-lanes.ensures.count ∙ len;
      lanes = rw p (c.in_ok-lanes.ensures.lanes me peers c.args.parts.pend.input.line caps.link lanes);
      local = rw p local;
      stages = rw (p, s, a) stages;
    }
