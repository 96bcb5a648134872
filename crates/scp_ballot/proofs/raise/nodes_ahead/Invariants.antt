use Rattle.scp_ballot_rules.specs.scp_quorum.specs.NodeSet.{is_in}
use Rattle.scp_ballot_rules.specs.Told.{ballots_on}
use Rattle.scp_ballot.proofs.Aheads.{IsPickingAhead}
use Rattle.scp_ballot.proofs.raise.nodes_ahead.Given as goal

abbrev pub invariant-loop-node : goal.invariant-loop-node
invariant-loop-node l = IsPickingAhead (ballots_on l.board) l.n (is_in l.nodes) l.node-iterator
