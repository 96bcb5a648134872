use Rattle.std.proofs.Common.{sym}
use Rattle.toml.specs.View.{table_view}
use Rattle.scp_live_config.proofs.Lifting.{names_wrong}
use Rattle.scp_live_config.proofs.names.read_names.Goals as goal

pub returns-in-Err-clause-wrong : goal.returns-in-Err-clause-wrong
returns-in-Err-clause-wrong c =
    let found = rw c.in-Some.is at c.table_at.ensures in
    names_wrong (table_view c.args.doc.now) (table_view c.in-Some.nodes.now) c.in-Err.fault (sym found) c.in-Err.ensures.wrong
