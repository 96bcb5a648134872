use Rattle.std.proofs.Common.{◌≡◌, ◌<◌, None}
use Rattle.std.specs.Option.{ForSome}
use Rattle.scp_ballot_rules.specs.Told.{ballots_on}
use Rattle.scp_ballot.specs.inside.Ahead.{IsAhead, or_floor}
use Rattle.scp_ballot.proofs.Aheads.{HoldsVisited}
use Rattle.scp_ballot.proofs.raise.highest_above.Given as goal

abbrev pub invariant-loop-node : goal.invariant-loop-node
invariant-loop-node l = record {
  above : ForSome l.top (λ t. l.n < t);
  none : HoldsVisited (λ v. l.top ≡ None → IsAhead (ballots_on l.board) l.n v → ⊥) l.node-iterator;
  seen : HoldsVisited (λ v. IsAhead (ballots_on l.board) (or_floor l.n l.top) v → ⊥) l.node-iterator;
}
