use Rattle.scp_ballot_rules.specs.Told.{ballots_on}
use Rattle.scp_ballot_rules.proofs.Ranges.{confirms_commit, confirms_none, none_zero}
use Rattle.scp_ballot_rules.proofs.Ranges.{no_low_none}
use Rattle.scp_ballot_rules.proofs.ExactRanges.{commit_answers, commit_rests}
use Rattle.scp_ballot_rules.proofs.confirm_commit.confirm_commit.Goals as goal

pub confirmed_range-requires : goal.confirmed_range-requires
confirmed_range-requires c = record { counted = none_zero (ballots_on c.args.board.now) c.args.boundaries.now c.requires.all }

pub returns-in_ok-next-in-Some-2-clause-step : goal.returns-in_ok-next-in-Some-2-clause-step
returns-in_ok-next-in-Some-2-clause-step c =
    let found = rw c.in-Some-2.is at c.in_ok-range-in-Some.ensures.range in
    confirms_commit (ballots_on c.args.board.now) c.args.state.now c.in_ok-next-in-Some-2.next c.in-Some-2.range found c.in_ok-next-in-Some-2.ensures.made

pub returns-in-None-2-clause-rests : goal.returns-in-None-2-clause-rests
returns-in-None-2-clause-rests c =
    let none = rw c.in-None-2.is at c.in_ok-range-in-Some.ensures.none in
    confirms_none (ballots_on c.args.board.now) c.args.boundaries.now c.requires.all c.args.state.now c.in-Some.low c.in-Some.is none

pub returns-in_ok-next-in-Some-2-clause-exact : goal.returns-in_ok-next-in-Some-2-clause-exact
returns-in_ok-next-in-Some-2-clause-exact c phase =
    let exact = rw c.in-Some-2.is at c.in_ok-range-in-Some.ensures.exact in
    commit_answers (ballots_on c.args.board.now) c.args.state.now c.args.boundaries.now c.requires.all c.in-Some-2.range c.in-Some.low c.in-Some.is exact c.in_ok-next-in-Some-2.next c.in_ok-next-in-Some-2.ensures.made phase

pub returns-in-None-2-clause-exact : goal.returns-in-None-2-clause-exact
returns-in-None-2-clause-exact c _ =
    let none = rw c.in-None-2.is at c.in_ok-range-in-Some.ensures.none in
    commit_rests (ballots_on c.args.board.now) c.args.state.now (confirms_none (ballots_on c.args.board.now) c.args.boundaries.now c.requires.all c.args.state.now c.in-Some.low c.in-Some.is none)

pub returns-in-None-clause-exact : goal.returns-in-None-clause-exact
returns-in-None-clause-exact c _ = commit_rests (ballots_on c.args.board.now) c.args.state.now (no_low_none (ballots_on c.args.board.now) c.args.state.now c.in-None.is)
