use Rattle.scp_quorum.proofs.Groups.{one_of_all}
use Rattle.scp_quorum.proofs.quorum.follow_one.Goals as goal

pub returns-in_err-lower_for_all-clause-kept : goal.returns-in_err-lower_for_all-clause-kept
returns-in_err-lower_for_all-clause-kept c sets one =
    c.remove_if_unsatisfied.ensures.kept sets (one_of_all sets c.args.groups.now c.args.index c.in-Some.group.now c.in-Some.ensures.lookup.3.0 (c.in-Some.ensures.lookup.3.1 c.in-Some.group.now) one)

pub returns-in_ok-lower_for_all-clause-kept : goal.returns-in_ok-lower_for_all-clause-kept
returns-in_ok-lower_for_all-clause-kept c sets one =
    c.remove_if_unsatisfied.ensures.kept sets (one_of_all sets c.args.groups.now c.args.index c.in-Some.group.now c.in-Some.ensures.lookup.3.0 (c.in-Some.ensures.lookup.3.1 c.in-Some.group.now) one)
