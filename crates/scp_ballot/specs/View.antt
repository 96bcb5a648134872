-- What clients see of a balloter.
use Rattle.std.specs.Prelude.{ℕ, List, Bool, Option}
use Rattle.scp_ballot_rules.specs.scp_types.specs.declared.names.Hash.{Hash}
use Rattle.scp_ballot_rules.specs.scp_envelope.specs.declared.statement.Pledges.{Pledges}
use Rattle.scp_ballot_rules.specs.scp_vote.specs.declared.board.Board.{Board}
use Rattle.scp_ballot_rules.specs.declared.state.State.{State}

-- The slot, the local set's hash, the board, the state of the ballots, the composite that is kept, the statement that was
-- emitted last, and whether it failed.
pub record BalloterView : Type 0 where
  pub slot : ℕ
  pub hash : Hash
  pub board : Board
  pub state : State
  pub composite : Option (List ℕ)
  pub emitted : Option Pledges
  pub failed : Bool
