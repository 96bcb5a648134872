use Rattle.std.proofs.Common.{List, [], subst}
use Rattle.scp_stand_node.specs.scp_stand_slot.specs.NodeNames.{Naming}
use Rattle.scp_stand_node.specs.scp_stand_slot.specs.Names.{AreNamesOf}
use Rattle.scp_live_process.proofs.stand.names_of.Goals as goal

pub returns : goal.returns
returns c = subst (λ (nodes : List Naming). AreNamesOf [] nodes c.of_nodes.result) c.in_ok-names.ensures c.of_nodes.ensures
