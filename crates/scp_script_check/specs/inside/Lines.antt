-- The lines of a script, in hex digits or as text, and the first bad one (this project's profile).
-- No public clause reaches this: nothing here need be believed.
use Rattle.std.specs.Prelude.{◌≡◌, Bool, not, ℕ, List, Option, Some, None, Result, Ok, Err}
use Rattle.scp_nominate.specs.scp_types.specs.declared.fault.Fault.{Fault}
use Rattle.scp_nominate.specs.scp_types.specs.declared.fault.Fault.TheVariants.{BadScript}
use Rattle.scp_script_text.specs.declared.script.Form.TheVariants.{Hex}
use Rattle.scp_script_text.specs.Scripts.{IsLineOf}
use Rattle.scp_script.specs.declared.command.Command.{Command}
use Rattle.scp_script.specs.Words.{words_of, is_skipped}
use Rattle.scp_script.specs.declared.reading.Reading.{Reading}
use Rattle.scp_script.specs.Reading.{Stands, TakesWords}
use Rattle.scp_script.specs.scp_device.specs.declared.bad.ReadFault.{ReadFault}
use Rattle.scp_script.specs.scp_device.specs.declared.bad.ReadFault.TheVariants as faults
use Rattle.scp_script_check.specs.Lines.{IsBad, IsReason, IsBadAt, IsFirstBad}

-- the line was taken in after what was read: its hex digits may follow that, and hold a command or are skipped
pub record IsTaken (old : Reading) (line : List ℕ) (holds : Bool) (new : Reading) : Type 0 where
  pub digits : List ℕ
  pub written : IsLineOf Hex line digits
  pub stands : Stands old.commands.items digits
  pub taken : TakesWords old (words_of digits) new
  pub holds_is : holds ≡ not (is_skipped digits)

-- why the line with this number isn't taken in: out of memory, or it is bad
abbrev pub IsPlaced : List Command → List ℕ → ℕ → ReadFault → Type 0
IsPlaced before line number faults.NoMemory = Unit {0}
IsPlaced before line number (faults.Bad bad) = (bad.line ≡ number) × IsBad before line × IsReason before line (Some bad.bad)
IsPlaced before line number (faults.BadAt at) = (at ≡ number) × IsBad before line

-- why the lines of a text weren't all read: out of memory, or the first bad one
abbrev pub IsFound : List ℕ → ReadFault → Type 0
IsFound text faults.NoMemory = Unit {0}
IsFound text (faults.Bad bad) = IsFirstBad text bad
IsFound text (faults.BadAt number) = IsBadAt text number

-- the bad line that a reading reported
abbrev pub bad_line_of : {A : Type 0} → Result A Fault → Option ℕ
bad_line_of (Ok x) = None
bad_line_of (Err (BadScript line)) = Some line
bad_line_of (Err fault) = None
