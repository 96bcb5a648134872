use Rattle.std.proofs.Common.{rules}
use Rattle.scp_line.proofs.Fits.{config_fits}
use Rattle.scp_line.proofs.nodes.config_from.Goals as goal

pub returns-clause-fit : goal.returns-clause-fit
returns-clause-fit c = config_fits _ c.args.commands.now c.args.count c.args.number (search rules) c.requires.count c.requires.few c.requires.number c.requires.room c.in_ok-set_of_node.ensures.sane
