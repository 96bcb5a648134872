use Rattle.scp_ballot_rules.specs.Told.{ballots_on}
use Rattle.scp_ballot_rules.proofs.Stepping.{confirms_prepared}
use Rattle.scp_ballot_rules.proofs.ExactConfirms.{confirm_answers}
use Rattle.scp_ballot_rules.proofs.confirm_prepared.confirm.Goals as goal

pub returns-clause-step : goal.returns-clause-step
returns-clause-step c =
    confirms_prepared (ballots_on c.args.board.now) c.args.ballot.now c.args.state.now c.in_ok-joined.joined c.in_ok-next.next c.in_ok-low.low c.requires.confirmed
    c.in_ok-joined.ensures.joins c.in_ok-low.ensures.low c.in_ok-next.ensures.made

pub returns-clause-exact : goal.returns-clause-exact
returns-clause-exact c =
    confirm_answers (ballots_on c.args.board.now) c.args.ballot.now c.args.state.now c.in_ok-joined.joined c.in_ok-next.next c.in_ok-low.low c.requires.greatest c.requires.confirmed.2
    c.in_ok-joined.ensures.joins c.in_ok-low.ensures.low c.in_ok-next.ensures.made
