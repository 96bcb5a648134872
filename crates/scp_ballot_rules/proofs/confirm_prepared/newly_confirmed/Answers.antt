use Rattle.std.proofs.Common.{◌≡◌, ◌≢◌}
use Rattle.scp_vote.specs.scp_types.specs.declared.ballot.Ballot.{Ballot}
use Rattle.scp_vote.specs.declared.claim.Claim.TheVariants.{Prepared}
use Rattle.scp_vote.specs.Board.{Confirmed}
use Rattle.scp_ballot_rules.specs.Order.{IsAbove}
use Rattle.scp_ballot_rules.specs.Told.{ballots_on}
use Rattle.scp_ballot_rules.proofs.Stepping.{confirms_more, confirms_no_more, refuted, if_some}
use Rattle.scp_ballot_rules.proofs.ExactConfirms.{confirmed_greatest, greatest_some}
use Rattle.scp_ballot_rules.proofs.confirm_prepared.newly_confirmed.Goals as goal

pub returns-then-is_same-clause-none : goal.returns-then-is_same-clause-none
returns-then-is_same-clause-none c =
    confirms_no_more (ballots_on c.args.board.now) c.args.state.now c.args.candidates.now c.in_ok-best.best c.requires.all c.in_ok-best.ensures.greatest (c.is_same.ensures.0 c.if-is_same.true)

pub returns-clause-found : goal.returns-clause-found
returns-clause-found c =
    let b = ballots_on c.args.board.now in
    if_some (λ (x : Ballot). (x.counter ≢ 0) × Confirmed b (Prepared x) × IsAbove x c.args.state.now.confirmed) c.in_ok-best.best
    (confirms_more b c.args.state.now c.args.candidates.now c.in_ok-best.best c.requires.all c.in_ok-best.ensures.greatest
    (refuted (c.in_ok-best.best ≡ c.args.state.now.confirmed) c.is_same.result c.is_same.ensures c.if-is_same.false))

pub returns-clause-greatest : goal.returns-clause-greatest
returns-clause-greatest c =
    let b = ballots_on c.args.board.now in
    greatest_some b c.in_ok-best.best (confirmed_greatest b c.args.state.now.confirmed c.args.candidates.now c.in_ok-best.best c.requires.all c.in_ok-best.ensures.greatest
    (refuted (c.in_ok-best.best ≡ c.args.state.now.confirmed) c.is_same.result c.is_same.ensures c.if-is_same.false))
