use Rattle.scp_ballot_rules.specs.Told.{ballots_on}
use Rattle.scp_ballot_rules.proofs.Ranges.{accepts_commit, keeps_all, grows, commits_no_higher, none_zero}
use Rattle.scp_ballot_rules.proofs.Ranges.{no_low_higher}
use Rattle.scp_ballot_rules.proofs.ExactRanges.{higher_answers, higher_rests}
use Rattle.scp_ballot_rules.proofs.accept_commit.accept_higher.Goals as goal

pub higher_range-requires : goal.higher_range-requires
higher_range-requires c = record { counted = none_zero (ballots_on c.args.board.now) c.args.boundaries.now c.requires.all }

pub returns-in_ok-next-in-Some-2-clause-step : goal.returns-in_ok-next-in-Some-2-clause-step
returns-in_ok-next-in-Some-2-clause-step c =
    let b = ballots_on c.args.board.now in
    let old = c.args.state.now in
    let next = c.in_ok-next-in-Some-2.next in
    let range = c.in-Some-2.range in
    let held = c.in_ok-prepared-in-Some-2.prepared in
    let found = rw c.in-Some-2.is at c.in_ok-range-in-Some.ensures.range in
    let made = c.in_ok-next-in-Some-2.ensures.made in
    let same = c.in_ok-prepared-in-Some-2.ensures.same in (
      accepts_commit b old next range held found.0 made.0 made.1 (keeps_all b old next range held found.0 made.0 made.1 c.requires.ready same c.in-Some.low c.in-Some.is found.1 found.2),
      grows b old next range held found.0 made.0 made.1 c.requires.ready same c.in-Some.low c.in-Some.is found.1 found.2,
    )

pub returns-in-None-2-clause-rests : goal.returns-in-None-2-clause-rests
returns-in-None-2-clause-rests c =
    let none = rw c.in-None-2.is at c.in_ok-range-in-Some.ensures.none in
    commits_no_higher (ballots_on c.args.board.now) c.args.boundaries.now c.requires.all c.args.state.now c.in-Some.low c.in-Some.is none

pub returns-in_ok-next-in-Some-2-clause-exact : goal.returns-in_ok-next-in-Some-2-clause-exact
returns-in_ok-next-in-Some-2-clause-exact c =
    let exact = rw c.in-Some-2.is at c.in_ok-range-in-Some.ensures.exact in
    let made = c.in_ok-next-in-Some-2.ensures.made in
    higher_answers (ballots_on c.args.board.now) c.args.state.now c.args.boundaries.now c.requires.all c.in-Some-2.range c.in-Some.low c.in-Some.is exact c.in_ok-next-in-Some-2.next c.in_ok-prepared-in-Some-2.prepared made.0 made.1
    c.in_ok-prepared-in-Some-2.ensures.same

pub returns-in-None-2-clause-exact : goal.returns-in-None-2-clause-exact
returns-in-None-2-clause-exact c =
    let none = rw c.in-None-2.is at c.in_ok-range-in-Some.ensures.none in
    higher_rests (ballots_on c.args.board.now) c.args.state.now (commits_no_higher (ballots_on c.args.board.now) c.args.boundaries.now c.requires.all c.args.state.now c.in-Some.low c.in-Some.is none)

pub returns-in-None-clause-exact : goal.returns-in-None-clause-exact
returns-in-None-clause-exact c = higher_rests (ballots_on c.args.board.now) c.args.state.now (no_low_higher (ballots_on c.args.board.now) c.args.state.now c.in-None.is)
