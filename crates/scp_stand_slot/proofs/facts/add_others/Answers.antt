use Rattle.std.proofs.Common.{refl, arith}
use Rattle.scp_slot.specs.scp_quorum.specs.NodeSet.{is_in}
use Rattle.scp_stand_slot.proofs.Gathering.{others_at}
use Rattle.scp_stand_slot.proofs.facts.add_others.Goals as goal

pub loop-node-preserved : goal.loop-node-preserved
loop-node-preserved c = others_at c.args.me (is_in c.args.others.now) (is_in c.loop-node.others) (is_in c.add_other.new.others) c.args.nodes.now c.loop-node.node-index _ _ (omega arith) refl c.in_ok-add_other.ensures c.loop-node.invariant
