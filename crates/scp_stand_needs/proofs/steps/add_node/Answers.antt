use Rattle.scp_ballot_rules.specs.scp_quorum.specs.NodeSet.{is_in}
use Rattle.scp_stand_needs.proofs.Members.{set_more}
use Rattle.scp_stand_needs.proofs.steps.add_node.Goals as goal

pub returns : goal.returns
returns c = set_more (is_in c.args.set.now) (is_in c.insert.new.self) c.args.node c.in_ok-insert.ensures.updates.0
