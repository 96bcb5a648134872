use Rattle.scp_slot.specs.scp_quorum.specs.NodeSet.{is_in}
use Rattle.scp_stand_slot.proofs.Gathering.{set_more}
use Rattle.scp_stand_slot.proofs.facts.add_node.Goals as goal

pub returns : goal.returns
returns c = set_more (is_in c.args.nodes.now) (is_in c.insert.new.self) c.args.node c.in_ok-insert.ensures.updates.0
