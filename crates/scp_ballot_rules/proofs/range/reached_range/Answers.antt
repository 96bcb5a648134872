use Rattle.scp_ballot_rules.proofs.range.reached_range.Goals as goal

pub returns-in_ok-value-in-Some-clause-exact : goal.returns-in_ok-value-in-Some-clause-exact
returns-in_ok-value-in-Some-clause-exact c =
    let first = rw c.in-Some.is at c.in_ok-high.ensures.first in
    record { high = first; low = c.in_ok-counter-in-Some.ensures.least; compatible = c.in_ok-value-in-Some.ensures.same }
