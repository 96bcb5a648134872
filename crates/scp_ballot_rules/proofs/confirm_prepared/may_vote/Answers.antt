use Rattle.scp_ballot_rules.proofs.Stepping.{may_vote_at}
use Rattle.scp_ballot_rules.proofs.confirm_prepared.may_vote.Goals as goal

pub returns-then-is_present : goal.returns-then-is_present
returns-then-is_present c = may_vote_at c.args.state.now c.in-Some.high c.none_over.result c.in-Some.is (c.is_present.ensures.0 c.if-is_present.true) c.none_over.ensures
