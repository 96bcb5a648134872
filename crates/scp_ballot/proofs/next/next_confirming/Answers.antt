use Rattle.std.proofs.Common.{inl, inr}
use Rattle.scp_ballot.proofs.next.next_confirming.Goals as goal

pub returns-in-Some-clause-step : goal.returns-in-Some-clause-step
returns-in-Some-clause-step c = let h = rw c.in-Some.is at c.in_ok-next.ensures.step in inr (c.requires.phase, inl h)

pub returns-in-Some-2-clause-step : goal.returns-in-Some-2-clause-step
returns-in-Some-2-clause-step c = let h = rw c.in-Some-2.is at c.in_ok-next-in-None.ensures.step in inr (c.requires.phase, inr h)
