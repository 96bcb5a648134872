use Rattle.std.proofs.Common.{sym, ◌∙◌}
use Rattle.scp_quorum.specs.NodeSet.{is_in}
use Rattle.scp_quorum_search.proofs.Looking.{IsSettled}
use Rattle.scp_quorum_search.proofs.Losing.{going, found_going}
use Rattle.scp_quorum_search.proofs.going.goes_on.Goals as goal

pub returns : goal.returns
returns c =
    let quest = c.args.quest.now in
    let lost = is_in c.args.lost.now in
    let settles : IsSettled quest (is_in c.in_ok-others.others) (is_in c.settle.new.nodes) = record { within = c.settle.ensures.within; kept = c.settle.ensures.kept; settled = c.settle.ensures.settled } in (
      λ e. going quest c.args.at.now lost (is_in c.in_ok-others.others) (is_in c.settle.new.nodes) c.in_ok-others.ensures.apart c.in_ok-others.ensures.listed c.in_ok-others.ensures.rest settles (sym c.contains-goes.ensures ∙ e),
      λ goes. c.contains-goes.ensures ∙ found_going quest c.args.at.now lost (is_in c.in_ok-others.others) (is_in c.settle.new.nodes) c.in_ok-others.ensures.apart c.in_ok-others.ensures.listed c.in_ok-others.ensures.rest settles goes,
    )
