-- A fate that is kept of a script's run is that of its own line (this project's profile).
use Rattle.std.specs.Prelude.{ℕ, ◌+◌, ◌≡◌, List, Some, slice_get}
use Rattle.scp_line.specs.scp_core.specs.Kv.{NodeView}
use Rattle.scp_line.specs.scp_turn.specs.Commands.{AreInTurn}
use Rattle.scp_line.specs.scp_turn.specs.Network.{NetworkView}
use Rattle.scp_line.specs.scp_script.specs.declared.command.Command.{Command}
use Rattle.scp_line.specs.Commands.{commands_to}
use Rattle.scp_facts.specs.declared.happening.Kept.{Kept}
use Rattle.scp_facts.specs.Taken.{happenings_at, obeyed_in}
use Rattle.scp_account.specs.Run.{IsKept}

-- The commands that were kept as taken by a node's slot stage are the first of those that the lines give to the node, each once, in the order
-- of the lines. The others wait.
abbrev pub ScriptIsKeptInTurn : Type 0
ScriptIsKeptInTurn = (commands : List Command) (network : NetworkView) (kept : List Kept) → IsKept commands network kept → (place : ℕ) (node : NodeView) → slice_get network.nodes place ≡ Some node → AreInTurn (commands_to (place + 1) commands) (obeyed_in (happenings_at (place + 1) kept)) node
