use Rattle.toml.specs.View.{table_view}
use Rattle.scp_live_config.proofs.Lifting.{whole_in_range, whole_wrong}
use Rattle.scp_live_config.proofs.sets.read_quorum_set.Goals as goal

pub make_sane-requires-clause-in_range : goal.make_sane-requires-clause-in_range
make_sane-requires-clause-in_range c = whole_in_range c.args.names.now (table_view c.args.doc.now) c.in_ok-set.set c.in_ok-set.ensures.read

pub returns-in-Err-clause-wrong : goal.returns-in-Err-clause-wrong
returns-in-Err-clause-wrong c = whole_wrong c.args.names.now (table_view c.args.doc.now) c.in_ok-set.set c.in-Err.fault c.requires.names c.in_ok-set.ensures.read c.in-Err.ensures.wrong
