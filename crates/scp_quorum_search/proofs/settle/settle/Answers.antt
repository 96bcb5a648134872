use Rattle.scp_quorum_search.proofs.settle.settle.Goals as goal

pub loop-init : goal.loop-init
loop-init c = record { within = λ v has. has; kept = λ us closed within. within }

pub loop-preserved : goal.loop-preserved
loop-preserved c = record {
  within = λ v has. c.loop.invariant.within v (c.remove_unsatisfied.ensures.within v has);
  kept = λ us closed within. c.remove_unsatisfied.ensures.kept us closed (c.loop.invariant.kept us closed within);
}

pub returns-clause-within : goal.returns-clause-within
returns-clause-within c v has = c.loop.invariant.within v (c.remove_unsatisfied.ensures.within v has)

pub returns-clause-kept : goal.returns-clause-kept
returns-clause-kept c us closed within = c.remove_unsatisfied.ensures.kept us closed (c.loop.invariant.kept us closed within)

pub returns-clause-settled : goal.returns-clause-settled
returns-clause-settled c = c.loop-test.ensures.settled
