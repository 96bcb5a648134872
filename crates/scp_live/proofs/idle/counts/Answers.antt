use Rattle.scp_live.specs.Idle.{idle_in}
use Rattle.scp_live.proofs.Counting.{counts_more}
use Rattle.scp_live.proofs.idle.counts.Goals as goal

pub loop-peer-preserved : goal.loop-peer-preserved
loop-peer-preserved c = counts_more (idle_in c.args.fates.now) c.args.peers.now c.loop-peer.peer-index c.idle_in.result _ c.loop-peer.counts.items c.push.new.self.items c.loop-peer-test.true c.loop-peer.invariant c.idle_in.ensures c.in_ok-push.ensures.items
