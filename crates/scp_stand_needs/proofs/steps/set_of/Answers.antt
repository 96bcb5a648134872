use Rattle.std.proofs.Common.{refl, arith}
use Rattle.scp_ballot_rules.specs.scp_quorum.specs.NodeSet.{is_in}
use Rattle.scp_stand_needs.proofs.Members.{these_at}
use Rattle.scp_stand_needs.proofs.steps.set_of.Goals as goal

pub loop-node-preserved : goal.loop-node-preserved
loop-node-preserved c = these_at c.args.nodes.now (is_in c.loop-node.set) (is_in c.add_node.new.set) c.loop-node.node-index _ _ (omega arith) refl c.in_ok-add_node.ensures c.loop-node.invariant
