use Rattle.std.proofs.Common.{map}
use Rattle.toml.specs.View.{view, table_view}
use Rattle.scp_live_config.proofs.Lifting.{peers_wrong}
use Rattle.scp_live_config.proofs.peers.read_peers.Goals as goal

pub returns-in-Err-clause-wrong : goal.returns-in-Err-clause-wrong
returns-in-Err-clause-wrong c =
    let found = rw c.in-Some.is at c.peers_at.ensures in
    peers_wrong c.args.names.now c.args.node.now (table_view c.args.doc.now) (map view c.in-Some.values.now) c.in-Err.fault c.requires.names c.requires.node found c.in-Err.ensures.wrong
