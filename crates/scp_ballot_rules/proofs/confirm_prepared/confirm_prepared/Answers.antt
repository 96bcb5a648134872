use Rattle.scp_ballot_rules.specs.Told.{ballots_on}
use Rattle.scp_ballot_rules.proofs.Stepping.{revises_prepared}
use Rattle.std.proofs.Common.{Some, None}
use Rattle.scp_ballot_rules.proofs.ExactConfirms.{revise_answers}
use Rattle.scp_ballot_rules.proofs.confirm_prepared.confirm_prepared.Goals as goal

pub returns-in-Some-2-clause-step : goal.returns-in-Some-2-clause-step
returns-in-Some-2-clause-step c =
    let h = rw c.in-Some-2.is at c.in_ok-next-in-None.ensures.revised in
    revises_prepared (ballots_on c.args.board.now) c.args.state.now c.in-Some-2.next h.0 h.1

pub returns-in-Some-2-clause-exact : goal.returns-in-Some-2-clause-exact
returns-in-Some-2-clause-exact c =
    let none = rw c.in-None.is at c.in_ok-ballot.ensures.none in
    let revised = rw c.in-Some-2.is at c.in_ok-next-in-None.ensures.exact in
    revise_answers (ballots_on c.args.board.now) c.args.state.now (Some c.in-Some-2.next) none revised

pub returns-in-None-2-clause-exact : goal.returns-in-None-2-clause-exact
returns-in-None-2-clause-exact c =
    let none = rw c.in-None.is at c.in_ok-ballot.ensures.none in
    let revised = rw c.in-None-2.is at c.in_ok-next-in-None.ensures.exact in
    revise_answers (ballots_on c.args.board.now) c.args.state.now None none revised
