use Rattle.scp_threaded_node.proofs.Told.{stopped_told}
use Rattle.scp_threaded_node.proofs.ending.stop.Goals as goal

pub returns-clause-ended : goal.returns-clause-ended
returns-clause-ended g c =
    let lanes = c.end_lanes-lanes.result in
    stopped_told c.args.node c.args.stood.now lanes.failed lanes.lost lanes.fault lanes.readers.items lanes.links.items c.end_local-local.result c.join-pend.result c.join-slot.result c.join-apply.result c.collect.result
    c.end_lanes-lanes.ensures.ended c.end_local-local.ensures c.join-pend.ensures c.join-slot.ensures c.join-apply.ensures c.end_lanes-lanes.ensures.readers c.collect.ensures.all c.collect.ensures.why
