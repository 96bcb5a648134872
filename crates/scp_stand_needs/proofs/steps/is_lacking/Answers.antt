use Rattle.scp_stand_needs.proofs.Members.{neither, counted}
use Rattle.scp_stand_needs.proofs.steps.is_lacking.Goals as goal

pub returns-then-not-has_node : goal.returns-then-not-has_node
returns-then-not-has_node c = neither c.has_node.result c.is_against.result c.has_node.ensures c.is_against.ensures c.if-not-has_node.true

pub returns-else-not-has_node : goal.returns-else-not-has_node
returns-else-not-has_node c = counted c.has_node.result c.has_node.ensures c.if-not-has_node.false
