use Rattle.scp_ballot_rules.specs.Owed.{Names}
use Rattle.scp_ballot_rules.specs.Told.{ballots_on}
use Rattle.scp_ballot_rules.proofs.Gathering.{IsGathering}
use Rattle.scp_ballot_rules.proofs.candidates.candidates.Given as goal

abbrev pub invariant-loop-node : goal.invariant-loop-node
invariant-loop-node l = IsGathering (ballots_on l.board) (λ p x. Names p x) l.list.items l.node-iterator
