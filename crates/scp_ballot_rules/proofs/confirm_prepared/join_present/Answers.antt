use Rattle.scp_vote.specs.scp_envelope.specs.Ballots.{IsLess}
use Rattle.scp_ballot_rules.proofs.Stepping.{joins_below, refuted}
use Rattle.scp_ballot_rules.proofs.confirm_prepared.join_present.Goals as goal

pub returns-clause-joins : goal.returns-clause-joins
returns-clause-joins c =
    joins_below c.args.ballot.now c.args.present.now c.args.state.now c.in_ok-next-2.next c.requires.present
    (refuted (IsLess c.args.present.now c.args.ballot.now) c.is_less.result c.is_less.ensures c.if-is_less.false) c.in_ok-next-2.ensures.made
