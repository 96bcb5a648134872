use denote.Param.Send.{sendable}
use Rattle.std.proofs.Crossing.{crosses}
use Rattle.scp_workers.specs.scp_ends.proofs.ends.Tx.TheSendSync as txs
use Rattle.scp_workers.specs.scp_ends.proofs.Crossing.{inbound_send}
use Rattle.scp_test_threads.proofs.ends.putting.Goals as goal

pub spawn-requires-send-F : goal.spawn-requires-send-F
spawn-requires-send-F g c κs within = (let it = inbound_send in search (sendable, crosses, txs.the_send) depth 40)
