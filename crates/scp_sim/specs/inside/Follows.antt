-- The first lines of a script, and those after them.
-- No public clause reaches these definitions, so nothing here needs to be believed.
use Rattle.std.specs.Prelude.{ℕ, ◌≡◌, List, ◌++◌}
use Rattle.scp_line.specs.scp_script.specs.declared.command.Command.{Command}
use Rattle.scp_script_check.specs.Lines.{IsSaid}
use Rattle.scp_sim.specs.inside.Lines.{IsDoneText}

-- The text is a script without a bad line.
pub record IsRead (text : List ℕ) : Type 0 where
  pub first : List Command
  pub numbers : List ℕ
  pub said : IsSaid text first numbers

-- The first text is followed by lines that say what happened.
pub record Follows (first text : List ℕ) : Type 0 where
  pub did : List ℕ
  pub are : IsDoneText did
  pub is : text ≡ first ++ did
