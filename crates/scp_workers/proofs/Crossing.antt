-- A courier may cross threads.
use denote.Param.Send.{IsSend, sendable}
use Rattle.std.proofs.Crossing.{crosses}
use Rattle.scp_shared_outbox.specs.Crossing.{EndsCross}
use Rattle.scp_ends.specs.contracts.tail.LinkTx as tail
use Rattle.scp_ends.proofs.tail.LinkTx.TheSendSync.{the_send}
use Rattle.scp_workers.specs.contracts.courier.Courier as courier

tail_send : IsSend tail.the_row
tail_send = search (sendable, crosses, the_send) depth 40

of_tail_send : EndsCross → IsSend tail.the_row → IsSend courier.the_row
of_tail_send ends t = (let taker = ends.taker in search (sendable, crosses) depth 40)

pub courier_send : EndsCross → IsSend courier.the_row
courier_send ends = of_tail_send ends tail_send
