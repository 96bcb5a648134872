use Rattle.scp_quorum.proofs.Ascending.{distinct_decided}
use Rattle.scp_quorum.proofs.quorum_set.sane.are_distinct.Goals as goal

pub returns : goal.returns
returns c = distinct_decided _ c.args.nodes.now c.sort_unstable.new.self c.sort_unstable.ensures.permutation c.sort_unstable.ensures.sorted c.is_ascending.ensures
