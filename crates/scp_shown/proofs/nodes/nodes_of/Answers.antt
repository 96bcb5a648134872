use Rattle.std.proofs.Common.{◌∙◌}
use Rattle.scp_shown.proofs.nodes.nodes_of.Goals as goal

pub returns-clause-nodes : goal.returns-clause-nodes
returns-clause-nodes c = c.in_ok-list.ensures ∙ c.in_ok-nodes.ensures.nodes
