use Rattle.scp_line.proofs.Others.{linked, network_made, network_new}
use Rattle.scp_line.proofs.nodes.linked_nodes.Goals as goal

pub returns-clause-nodes : goal.returns-clause-nodes
returns-clause-nodes c = network_new c.new.result c.args.commands.now c.in_ok-nodes.nodes.items c.new.ensures.nodes c.in_ok-nodes.ensures.nodes

pub returns-clause-only_memory : goal.returns-clause-only_memory
returns-clause-only_memory c =
    network_made c.new.result c.in_ok-nodes.nodes.items
    (linked c.args.commands.now c.in_ok-nodes.nodes.items c.in_ok-nodes.ensures.nodes c.in_ok-nodes.ensures.few)
    c.new.ensures.refused c.new.ensures.only
