use Rattle.scp_ballot_rules.proofs.ExactConfirms.{low_answers, low_rests}
use Rattle.scp_ballot_rules.proofs.confirm_prepared.revise.Goals as goal

pub returns-clause-exact : goal.returns-clause-exact
returns-clause-exact c = low_answers c.args.state.now c.in_ok-next.next c.in_ok-low.low c.is_same.result c.in_ok-low.ensures.low c.in_ok-next.ensures.made c.is_same.ensures c.if-is_same.false

pub returns-then-is_same-clause-exact : goal.returns-then-is_same-clause-exact
returns-then-is_same-clause-exact c = low_rests c.args.state.now c.in_ok-low.low c.in_ok-low.ensures.low (c.is_same.ensures.0 c.if-is_same.true)
