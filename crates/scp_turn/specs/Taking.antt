-- Which of the commands that a node is given in a run its slot stage took (this project's profile).
use Rattle.std.specs.Prelude.{List, [], ◌∷◌, ◌++◌}
use Rattle.scp_core.specs.scp_driver.specs.Driver.{Says}
use Rattle.scp_turn.specs.Commands.{TakenCommand, given_in, taken_by, AreInTurn}
use Rattle.scp_core.specs.History.{Exchange}
use Rattle.scp_core.specs.Node.{NodeView}
use Rattle.scp_core.specs.Theorem.{LedgerTheorem}
use Rattle.scp_turn.specs.Turn.{Does}

module _ {D : Type 0} (says : Says D) where
  -- the commands that the slot stage took in these steps, each with its fate, in order
  abbrev pub taken_over : (old : NodeView D) (heard : List Exchange) (new : NodeView D) → Does says old heard new → List TakenCommand
  taken_over old [] new does = []
  taken_over old (x ∷ heard) new does = taken_by x.0 x.1 old does.0 ++ taken_over does.0 heard new does.2

  -- What a node that heard more was given, and what it took of that: where those that it took before are the first of those that it was given
  -- before, these together are the first of all that it was given.
  abbrev pub MoreIsTakenInTurn : Type 0
  MoreIsTakenInTurn = (past heard : List Exchange) (old new : NodeView D) (taken : List TakenCommand) → LedgerTheorem says past old → (does : Does says old heard new) → AreInTurn (given_in past) taken old → AreInTurn (given_in (past ++ heard)) (taken ++ taken_over old heard new does) new

  -- So it is of a whole run, from a node as it is made.
  abbrev pub AllIsTakenInTurn : Type 0
  AllIsTakenInTurn = (heard : List Exchange) (old new : NodeView D) → LedgerTheorem says [] old → (does : Does says old heard new) → AreInTurn (given_in heard) (taken_over old heard new does) new
