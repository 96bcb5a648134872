use Rattle.scp_ballot_rules.proofs.told.reached.Goals as goal

pub returns-in-Acceptance-clause-exact : goal.returns-in-Acceptance-clause-exact
returns-in-Acceptance-clause-exact c = rw c.in-Acceptance.is c.accepted.ensures.exact

pub returns-in-Confirmation-clause-exact : goal.returns-in-Confirmation-clause-exact
returns-in-Confirmation-clause-exact c = rw c.in-Confirmation.is c.confirmed.ensures.exact
