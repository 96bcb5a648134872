-- A script that is being read.
-- No public clause reaches this: nothing here need be believed.
use Rattle.std.specs.Prelude.{◌≡◌, ℕ, List}
use Rattle.scp_script.specs.declared.reading.Reading.{Reading}
use Rattle.scp_script.specs.Script.{commands_of}
use Rattle.scp_script.specs.Reading.{IsReading}

-- what was read is consistent, and its commands are those of the lines
pub record HasRead (r : Reading) (lines : List (List ℕ)) : Type 0 where
  pub reading : IsReading r
  pub commands : r.commands.items ≡ commands_of lines
