use Rattle.scp_quorum.specs.NodeSet.{is_in}
use Rattle.scp_quorum_search.proofs.Sets.{empty_has_none}
use Rattle.scp_quorum_search.proofs.Honest.{shows_alone}
use Rattle.scp_quorum_search.proofs.disjoint.disjoint_within.Goals as goal

pub returns-clause-shows : goal.returns-clause-shows
returns-clause-shows c =
    shows_alone c.args.members.now (is_in c.new-none.result) (empty_has_none c.new-none.result c.new-none.ensures.empty) c.disjoint_beside.new.tries c.in_ok-found.found c.in_ok-found.ensures.shows
