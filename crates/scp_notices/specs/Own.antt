-- Whose fates a run reported (this project's profile).
use Rattle.std.specs.Prelude.{ℕ, ◌+◌, ◌≡◌, List, ◌∷◌, ◌++◌, Some, slice_get}
use Rattle.scp_line.specs.scp_ledger.specs.declared.took.CommandFate.{CommandFate}
use Rattle.scp_line.specs.scp_turn.specs.Commands.{TakenCommand, fates_taken, AreInTurn}
use Rattle.scp_line.specs.scp_core.specs.Kv.{NodeView}
use Rattle.scp_line.specs.scp_turn.specs.Kv.{Does, taken_over}
use Rattle.scp_line.specs.scp_turn.specs.Heard.{Heard, past_at}
use Rattle.scp_line.specs.scp_script.specs.declared.command.Command.{Command}
use Rattle.scp_line.specs.scp_threaded_script.specs.Lines.{local_by}
use Rattle.scp_line.specs.Commands.{commands_to}
use Rattle.scp_line.specs.Play.{IsNew}
use Rattle.scp_notices.specs.declared.commands.Told.{Told}
use Rattle.scp_notices.specs.Ignoring.{fates_at, teller, count_at, fate_behind}

-- Where a fate is reported for a line whose command the node of this number takes, it is the fate of that very command, among those that the node's
-- slot stage took.
abbrev pub AreOfTheirLines : List Command → List Told → ℕ → List TakenCommand → Type 0
AreOfTheirLines commands told number taken =
    (before : List Command) (command : Command) (after' : List Command) (fate : CommandFate) → commands ≡ before ++ command ∷ after' → teller command ≡ Some number → fate_behind told before command ≡ Some fate
    → (t : TakenCommand) × (slice_get taken (count_at number before) ≡ Some t) × (local_by command ≡ Some (number, t.command)) × (t.fate ≡ fate)

-- What the slot stage of the node at this place reported are the fates of the commands that it took, in the steps that led from the node as it
-- was made to this one. These commands are the first of those that the lines give the node, each once, in the order of the lines; the others
-- wait. So each fate that is reported for a line is that of the line's command.
pub record ReportsOwn (commands : List Command) (heard : List Heard) (told : List Told) (place : ℕ) (node : NodeView) : Type 0 where
  pub made : NodeView
  pub is_new : IsNew commands (place + 1) made
  pub does : Does made (past_at (place + 1) heard) node
  pub fates : fates_at (place + 1) told ≡ fates_taken (taken_over made (past_at (place + 1) heard) node does)
  pub in_turn : AreInTurn (commands_to (place + 1) commands) (taken_over made (past_at (place + 1) heard) node does) node
  pub lines : AreOfTheirLines commands told (place + 1) (taken_over made (past_at (place + 1) heard) node does)
