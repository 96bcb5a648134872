use Rattle.scp_stand_needs.proofs.Members.{the_second, counted}
use Rattle.scp_stand_needs.proofs.steps.is_opposed.Goals as goal

pub returns-then-not-has_node : goal.returns-then-not-has_node
returns-then-not-has_node c = the_second c.has_node.result c.is_against.result c.has_node.ensures c.is_against.ensures c.if-not-has_node.true

pub returns-else-not-has_node : goal.returns-else-not-has_node
returns-else-not-has_node c = counted c.has_node.result c.has_node.ensures c.if-not-has_node.false
