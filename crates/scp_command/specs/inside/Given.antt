-- Scripts that people give.
-- No public clause reaches these definitions: nothing here need be believed.
use Rattle.std.specs.Prelude.{ℕ, ◌≡◌, ◌⊎◌, List}
use Rattle.scp_convert.specs.scp_prompt.specs.declared.failure.Failure.{Failure}
use Rattle.scp_convert.specs.scp_prompt.specs.declared.failure.Failure.TheVariants.{Word, Line, NoMemory}
use Rattle.scp_script_short.specs.declared.expanded.Expanded.{Expanded}
use Rattle.scp_script_short.specs.scp_device.specs.declared.bad.ReadFault.{ReadFault}
use Rattle.scp_script_short.specs.scp_device.specs.declared.bad.ReadFault.TheVariants as reads
use Rattle.scp_command.specs.Given.{bad_of, placed}
use Rattle.scp_command.specs.Causes.{IsHeavy}

-- the failure of a text that can't be read
abbrev pub read_failure : ReadFault → Failure
read_failure reads.NoMemory = NoMemory
read_failure (reads.Bad bad) = Word bad
read_failure (reads.BadAt line) = Line line

-- the failure of an expanded script that can't be read
abbrev pub unread_script : Expanded → ReadFault → Failure
unread_script expanded reads.NoMemory = NoMemory
unread_script expanded (reads.Bad bad) = bad_of expanded bad
unread_script expanded (reads.BadAt line) = Line (placed expanded.lines line)

-- why the shorthands aren't expanded
abbrev pub IsStartFault : List ℕ → Failure → Type 0
IsStartFault input failure = (failure ≡ NoMemory) ⊎ IsHeavy input failure
