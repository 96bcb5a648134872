-- The part of a nominator that its inputs change.
use Rattle.std.specs.Prelude.{List, ℕ, Option}
use Rattle.scp_vote.specs.scp_envelope.specs.declared.statement.Pledges.{Pledges}
use Rattle.scp_vote.specs.Board.{KeepsOwn}
use Rattle.scp_nominate.specs.Heard.{heard}
use Rattle.scp_nominate.specs.declared.state.State.{State}
use Rattle.scp_nominate.specs.Own.{StandsFor, IsReady, IsKnown}

-- the node's own statement, if there is one
abbrev pub own_at : State → Option Pledges
own_at m = (heard m.board).statement (heard m.board).me

-- Between inputs: the own statement is that of the lists, which are as they must be, and the fully validated values are known.
pub record IsAtRest (full : List ℕ → Type 0) (m : State) : Type 0 where
  pub keeps : KeepsOwn (heard m.board)
  pub stands : StandsFor (own_at m) m.hash m.lists
  pub ready : IsReady full m.lists
  pub known : IsKnown full (heard m.board) m.known
