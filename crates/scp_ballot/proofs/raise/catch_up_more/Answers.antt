use Rattle.std.proofs.Common.{Some, ◌≡◌, ℕ, subst}
use Rattle.scp_ballot_rules.specs.Own.{counter_of}
use Rattle.scp_ballot_rules.specs.Owed.{AreAheadOf}
use Rattle.scp_ballot_rules.proofs.Answering.{raise_answers}
use Rattle.scp_ballot_rules.specs.Told.{ballots_on}
use Rattle.scp_ballot.proofs.raise.catch_up_more.Goals as goal

pub returns-in-Some-2-clause-exact : goal.returns-in-Some-2-clause-exact
returns-in-Some-2-clause-exact c phase =
    let b = ballots_on c.args.board.now in
    let ahead = rw c.in-Some.is at c.in_ok-n.ensures.ahead in
    let least = rw c.in-Some.is at c.in_ok-n.ensures.least in
    let answers = rw c.in-Some-2.is at c.in_ok-next-in-Some.ensures.exact phase in
    raise_answers b c.args.state.now c.in-Some.n (Some c.in-Some-2.next) (subst (λ (n : ℕ). AreAheadOf b n) c.counter.ensures ahead) least answers
