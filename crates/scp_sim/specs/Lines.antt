-- The lines of a script that say what happened (this project's profile).
use Rattle.std.specs.Prelude.{ℕ, ◌≡◌, true, All, List, ◌++◌, codes, flat_map}
use Rattle.std.specs.List.{list_all}
use Rattle.scp_line.specs.scp_script.specs.declared.command.Command.{Command}
use Rattle.scp_line.specs.scp_script.specs.Nodes.{NamesNodes}
use Rattle.scp_line.specs.scp_script.specs.Script.{begins, commands_of, is_line}

-- A command by which something happens. It names only nodes from 1 to 8, and it is none of `caps`, `nodes` and `set`.
pub record IsDone (command : Command) : Type 0 where
  pub names : NamesNodes command
  pub begun : begins command ≡ true

-- Lines as a text, each with its line end.
abbrev pub text_of : List (List ℕ) → List ℕ
text_of lines = flat_map (λ line. line ++ codes "\n") lines

-- Each of these lines is a line of a script in digits, and each command that they say is one by which something happens.
pub record AreDone (lines : List (List ℕ)) : Type 0 where
  pub each : list_all is_line lines ≡ true
  pub done : All IsDone (commands_of lines)
