use Rattle.scp_nominate.specs.scp_quorum.specs.Quorum.{set_of}
use Rattle.scp_ballot.specs.scp_ballot_rules.specs.Told.{ballots_on}
use Rattle.scp_slot.proofs.Sets.{IsPuttingSets}
use Rattle.scp_slot.proofs.quorum.sets_from.Given as goal

abbrev pub invariant-loop-node : goal.invariant-loop-node
invariant-loop-node l = IsPuttingSets (ballots_on l.board) l.counter (set_of l.sets) l.node-iterator
