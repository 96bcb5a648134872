use Rattle.std.proofs.Common.{◌<◌}
use Rattle.scp_ballot_rules.specs.Owed.{AreAheadOf}
use Rattle.scp_ballot_rules.specs.Told.{ballots_on}
use Rattle.scp_ballot.specs.inside.Ahead.{IsLeastOfStatement}
use Rattle.scp_ballot.proofs.Aheads.{HoldsVisited}
use Rattle.scp_ballot.proofs.raise.least_counter.Given as goal

abbrev pub invariant-loop-node : goal.invariant-loop-node
invariant-loop-node l = record {
  above : l.n < l.least;
  free : ¬ (AreAheadOf (ballots_on l.board) l.least);
  least : HoldsVisited (λ v. IsLeastOfStatement (ballots_on l.board) l.n l.least v) l.node-iterator;
}
