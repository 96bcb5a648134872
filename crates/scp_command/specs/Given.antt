-- Scripts that people give, and the places of what is wrong in them (this project's profile).
use Rattle.std.specs.Prelude.{ℕ, ◌≡◌, nat_le, Bool, true, false, List, Option, Some, None}
use Rattle.scp_notices.specs.scp_line.specs.declared.playing.PlayFault.{PlayFault}
use Rattle.scp_convert.specs.scp_prompt.specs.declared.failure.Failure.{Failure}
use Rattle.scp_convert.specs.scp_prompt.specs.declared.failure.Failure.TheVariants.{Word, Line, Stopped}
use Rattle.scp_script_short.specs.scp_device.specs.declared.bad.BadLine.{BadLine}
use Rattle.scp_script_short.specs.declared.expanded.Expanded.{Expanded}
use Rattle.scp_script_short.specs.declared.placed.PlacedLine.{PlacedLine}
use Rattle.scp_script_short.specs.Scripts.{IsExpanded, script_of, place_at}
use Rattle.scp_command.specs.declared.given.Given.{Given}

-- The script that an input is, with each shorthand expanded into its lines.
pub record IsGiven (input : List ℕ) (given : Given) : Type 0 where
  pub expanded : IsExpanded input given.expanded
  pub text : given.text.items ≡ script_of given.expanded.lines

-- the first number if there is one, else the other
abbrev pub or_else : Option ℕ → ℕ → ℕ
or_else None other = other
or_else (Some this) other = this

-- the line of the input from which a line of the expanded script comes
abbrev pub placed : List PlacedLine → ℕ → ℕ
placed lines line = or_else (place_at lines line) line

-- ---- failures by their places

-- the failure names this line
abbrev pub IsAtLine : ℕ → Failure → Type 0
IsAtLine line (Word bad) = bad.line ≡ line
IsAtLine line (Line number) = number ≡ line
IsAtLine line failure = ⊥

-- the failure of a bad line, or of a shorthand that was refused in it or before it
abbrev pub bad_of_either : Bool → BadLine → BadLine → Failure
bad_of_either true refused bad = Word refused
bad_of_either false refused bad = Word bad

-- the failure of the first bad line, given the first shorthand that was refused, if one was
abbrev pub bad_by : Option BadLine → BadLine → Failure
bad_by None bad = Word bad
bad_by (Some refused) bad = bad_of_either (nat_le refused.line bad.line) refused bad

-- the failure of the first bad line of an expanded script
abbrev pub bad_of : Expanded → BadLine → Failure
bad_of expanded bad = bad_by expanded.refused (record { line = placed expanded.lines bad.line; bad = bad.bad })

-- the failure of a play that was stopped, at this line of the input if it is known
abbrev pub stop_of : Option ℕ → PlayFault → Failure
stop_of line fault = Stopped (record { line = line; node = fault.node; fault = fault.fault })
