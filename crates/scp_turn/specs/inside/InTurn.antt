-- How the commands that were taken stay the first of those that were given, step by step.
use Rattle.std.specs.Prelude.{List, [], ◌++◌}
use Rattle.scp_core.specs.scp_driver.specs.Driver.{Says}
use Rattle.scp_core.specs.scp_wire.specs.declared.link.Command.{Command}
use Rattle.scp_core.specs.declared.event.Event.{Event}
use Rattle.scp_core.specs.declared.event.Reply.{Reply}
use Rattle.scp_core.specs.History.{Exchange}
use Rattle.scp_core.specs.Node.{NodeView, Step}
use Rattle.scp_core.specs.Theorem.{LedgerTheorem}
use Rattle.scp_turn.specs.Commands.{TakenCommand, given_by, taken_by, AreInTurn}

module _ {D : Type 0} (says : Says D) where
  -- it holds of a node as it is made, of no command
  abbrev pub NoneAreInTurn : Type 0
  NoneAreInTurn = (v : NodeView D) → LedgerTheorem says [] v → AreInTurn [] [] v

  -- and what holds of the commands that were given and taken holds with those of one step more
  abbrev pub StepsTakeInTurn : Type 0
  StepsTakeInTurn = (past : List Exchange) (old new : NodeView D) (event : Event) (reply : Reply) (given : List Command) (taken : List TakenCommand) → LedgerTheorem says past old → Step says old event reply new → AreInTurn given taken old → AreInTurn (given ++ given_by event reply) (taken ++ taken_by event reply old new) new
