use Rattle.scp_ballot_rules.specs.Told.{ballots_on}
use Rattle.scp_ballot_rules.proofs.Stepping.{accepts_prepared, accepts_no_more}
use Rattle.scp_ballot_rules.proofs.Exactly.{accepts_answers, accepts_rests}
use Rattle.scp_ballot_rules.proofs.accept_prepared.accept_prepared.Goals as goal

pub returns-clause-step : goal.returns-clause-step
returns-clause-step c =
    accepts_prepared (ballots_on c.args.board.now) c.args.state.now c.in_ok-next.next c.args.candidates.now c.in_ok-prepared.prepared c.in_ok-prime.prime c.in_ok-low.low
    c.in_ok-prepared.ensures.greatest c.in_ok-next.ensures.made c.in_ok-prime.ensures.prime c.in_ok-low.ensures.low

pub returns-then-is_held-clause-rests : goal.returns-then-is_held-clause-rests
returns-then-is_held-clause-rests c =
    accepts_no_more (ballots_on c.args.board.now) c.args.state.now c.args.state.now c.args.candidates.now c.in_ok-prepared.prepared c.in_ok-prime.prime c.in_ok-low.low
    c.in_ok-prepared.ensures.greatest c.requires.all (c.is_held.ensures.0 c.if-is_held.true).0

pub returns-clause-exact : goal.returns-clause-exact
returns-clause-exact c =
    accepts_answers (ballots_on c.args.board.now) c.args.state.now c.args.candidates.now c.requires.all c.in_ok-prepared.prepared c.in_ok-prime.prime c.in_ok-low.low
    c.in_ok-prepared.ensures.greatest c.in_ok-prime.ensures.exact c.in_ok-low.ensures.low c.in_ok-next.next c.is_held.result c.in_ok-next.ensures.made c.is_held.ensures c.if-is_held.false

pub returns-then-is_held-clause-exact : goal.returns-then-is_held-clause-exact
returns-then-is_held-clause-exact c =
    accepts_rests (ballots_on c.args.board.now) c.args.state.now c.args.candidates.now c.requires.all c.in_ok-prepared.prepared c.in_ok-prime.prime c.in_ok-low.low
    c.in_ok-prepared.ensures.greatest c.in_ok-prime.ensures.exact c.in_ok-low.ensures.low (c.is_held.ensures.0 c.if-is_held.true)
