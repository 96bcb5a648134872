use Rattle.scp_ballot_rules.specs.Owed.{Bounds}
use Rattle.scp_ballot_rules.specs.Told.{ballots_on}
use Rattle.scp_ballot_rules.proofs.Gathering.{IsGathering}
use Rattle.scp_ballot_rules.proofs.boundaries.boundaries.Given as goal

abbrev pub invariant-loop-node : goal.invariant-loop-node
invariant-loop-node l = IsGathering (ballots_on l.board) (λ p x. Bounds p x.value x.counter) l.list.items l.node-iterator
