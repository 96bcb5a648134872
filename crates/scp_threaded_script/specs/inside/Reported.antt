-- How the lines of a script leave the links of all its nodes.
-- No public clause reaches this definition: nothing here need be believed.
use Rattle.std.specs.Prelude.{◌≡◌, ◌+◌, List, length}
use Rattle.std.specs.Global.{Vec}
use Rattle.scp_script.specs.declared.command.Command.{Command}
use Rattle.scp_script.specs.Script.{node_count}
use Rattle.scp_threaded_node.specs.declared.ending.Stood.{Stood}
use Rattle.scp_threaded_node.specs.Seats.{Each}
use Rattle.scp_threaded_script.specs.Reported.{AreStood}

-- how the lines leave the links to each node
abbrev pub AllStand : List Command → List (Vec Stood) → Type 0
AllStand commands all = (length all ≡ node_count commands) × Each (λ i stood. AreStood commands (i + 1) stood.items) all
