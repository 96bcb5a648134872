use Rattle.std.proofs.Common.{◌∙◌, ap}
use Rattle.scp_quorum.specs.NodeSet.{is_in}
use Rattle.scp_quorum_search.specs.inside.Search.{is_or_in}
use Rattle.scp_quorum_search.proofs.search.with.Goals as goal

pub returns : goal.returns
returns c v = c.in_ok-insert.ensures.updates.0 v ∙ ap (λ s. is_or_in c.args.node (is_in s) v) c.in_ok-more.ensures
