use Rattle.std.proofs.Common.{Some, sym, ◌∙◌, ap}
use Rattle.scp_ballot_rules.specs.declared.state.State.{State}
use Rattle.scp_ballot_rules.specs.Greatest.{ballot_at}
use Rattle.scp_ballot_rules.proofs.Answering.{raises_to}
use Rattle.scp_ballot.proofs.raise.raise_preparing.Goals as goal

pub returns-in_ok-copied-in-Some-clause-exact : goal.returns-in_ok-copied-in-Some-clause-exact
returns-in_ok-copied-in-Some-clause-exact c phase =
    raises_to c.args.counter c.args.state.now c.in-Some.value c.in_ok-high-in-Some.high c.in_ok-low-in-Some.low _ phase c.requires.higher (sym c.in_ok-value.ensures.value ∙ c.in-Some.is) c.in_ok-high-in-Some.ensures.exact c.in_ok-low-in-Some.ensures.exact
    (ap (λ (r : State). let t : State = record r { present = Some (ballot_at c.args.counter c.in-Some.value); high = c.in_ok-high-in-Some.high; low = c.in_ok-low-in-Some.low } in t) c.in_ok-copied-in-Some.ensures.same)
