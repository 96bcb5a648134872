use Rattle.scp_line.proofs.Making.{new_is}
use Rattle.scp_line.proofs.Fits.{made}
use Rattle.scp_line.proofs.nodes.new_node.Goals as goal

pub returns-clause-node : goal.returns-clause-node
returns-clause-node c = new_is c.new.result c.args.commands.now c.args.number c.in_ok-config.config c.new.ensures.theorem c.new.ensures.config c.in_ok-config.ensures.config

pub returns-clause-only_memory : goal.returns-clause-only_memory
returns-clause-only_memory c = made c.new.result c.in_ok-config.config c.in_ok-config.ensures.fit c.new.ensures.refused c.new.ensures.only
