use Rattle.std.proofs.Common.{◌≡◌, ◌≢◌, ◌+◌, ℕ, Some, ap, rules}
use Rattle.scp_ballot_rules.specs.Own.{counter_of}
use Rattle.scp_ballot.proofs.Outcomes.{time_raises}
use Rattle.scp_ballot.proofs.inputs.timed.Goals as goal

pub returns-in-Some-clause-exact : goal.returns-in-Some-clause-exact
returns-in-Some-clause-exact c =
    let s = c.args.state.now in
    let below : counter_of s.present ≢ 4294967295 = λ e. (search rules) in
    let exact = rw c.in-Some.is at c.in_ok-next-in-Prepare.ensures.exact c.in-Prepare.is in
    time_raises (c.counter-counter.result + 1) s (Some c.in-Some.next) (ap (λ (n : ℕ). n + 1) c.counter-counter.ensures) below exact
