use Rattle.scp_script.proofs.QuorumSets.{set_at_sane}
use Rattle.scp_script.proofs.nodes.set_of_node.Goals as goal

pub returns-in_err-set-clause-sane : goal.returns-in_err-set-clause-sane
returns-in_err-set-clause-sane c = set_at_sane c.args.number c.args.commands.now c.requires.names c.requires.admitted

pub returns-in_err-of_all-in-None-clause-sane : goal.returns-in_err-of_all-in-None-clause-sane
returns-in_err-of_all-in-None-clause-sane c = set_at_sane c.args.number c.args.commands.now c.requires.names c.requires.admitted

pub returns-in-Some-last-clause-sane : goal.returns-in-Some-last-clause-sane
returns-in-Some-last-clause-sane c = set_at_sane c.args.number c.args.commands.now c.requires.names c.requires.admitted

pub returns-in_ok-of_all-in-None-clause-sane : goal.returns-in_ok-of_all-in-None-clause-sane
returns-in_ok-of_all-in-None-clause-sane c = set_at_sane c.args.number c.args.commands.now c.requires.names c.requires.admitted
