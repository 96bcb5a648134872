-- A law of the definitions: the queues of a script have room.
use Rattle.std.specs.Prelude.{ℕ, List}
use Rattle.scp_report.specs.scp_script.specs.Script.{commands_of}
use Rattle.scp_line.specs.Nodes.{HaveRoom}

-- The capacities that the lines of any script give its queues are in range.
abbrev pub LinesHaveRoom : Type 0
LinesHaveRoom = (lines : List (List ℕ)) → HaveRoom (commands_of lines)
