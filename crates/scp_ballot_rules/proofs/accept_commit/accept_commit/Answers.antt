use Rattle.scp_ballot_rules.specs.Told.{ballots_on}
use Rattle.scp_ballot_rules.proofs.Ranges.{accepts_commit, commits_none, none_zero}
use Rattle.scp_ballot_rules.proofs.ExactRanges.{first_answers, first_rests}
use Rattle.scp_ballot_rules.proofs.accept_commit.accept_commit.Goals as goal

pub reached_range-requires : goal.reached_range-requires
reached_range-requires c = record { counted = none_zero (ballots_on c.args.board.now) c.args.boundaries.now c.requires.all }

pub returns-in_ok-next-in-Some-clause-step : goal.returns-in_ok-next-in-Some-clause-step
returns-in_ok-next-in-Some-clause-step c =
    let reached = rw c.in-Some.is at c.in_ok-range.ensures.range in
    let made = c.in_ok-next-in-Some.ensures.made in
    accepts_commit (ballots_on c.args.board.now) c.args.state.now c.in_ok-next-in-Some.next c.in-Some.range c.in_ok-held-in-Some.held reached made.0 made.1 c.in_ok-held-in-Some.ensures.kept

pub returns-in-None-clause-rests : goal.returns-in-None-clause-rests
returns-in-None-clause-rests c =
    let none = rw c.in-None.is at c.in_ok-range.ensures.none in
    commits_none (ballots_on c.args.board.now) c.args.boundaries.now c.requires.all none

pub returns-in_ok-next-in-Some-clause-exact : goal.returns-in_ok-next-in-Some-clause-exact
returns-in_ok-next-in-Some-clause-exact c phase =
    let exact = rw c.in-Some.is at c.in_ok-range.ensures.exact in
    let made = c.in_ok-next-in-Some.ensures.made in
    first_answers (ballots_on c.args.board.now) c.args.state.now c.args.boundaries.now c.requires.all c.in-Some.range exact c.in_ok-next-in-Some.next c.in_ok-held-in-Some.held made.0 made.1 c.in_ok-held-in-Some.ensures.exact phase

pub returns-in-None-clause-exact : goal.returns-in-None-clause-exact
returns-in-None-clause-exact c _ =
    let none = rw c.in-None.is at c.in_ok-range.ensures.none in
    first_rests (ballots_on c.args.board.now) c.args.state.now (commits_none (ballots_on c.args.board.now) c.args.boundaries.now c.requires.all none)
