use Rattle.scp_ballot.proofs.giving.is_worth.Goals as goal

pub returns-then-sane : goal.returns-then-sane
returns-then-sane c = (λ passed. (c.sane.ensures.0 c.if-sane.true, c.is_newer.ensures.0 passed), λ h. c.is_newer.ensures.1 h.1)
