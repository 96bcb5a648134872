-- How a fault is reported.
use Rattle.std.specs.Prelude.{ℕ, List, ◌==◌, ◌≤◌, length}
use Rattle.std.specs.List.{slice_split}
use Rattle.scp_slot.specs.scp_types.specs.declared.fault.Fault.{Fault}
use Rattle.scp_slot.specs.scp_types.specs.declared.fault.Fault.TheVariants.{NoMemory, BadScript}

-- the lines of a text
abbrev pub lines_of : List ℕ → List (List ℕ)
lines_of text = slice_split (λ byte. byte == 10) text

-- why a text isn't read as a script: out of memory, or one of its lines, by its number from 1 on
abbrev pub IsScriptFault : List ℕ → Fault → Type 0
IsScriptFault text NoMemory = Unit {0}
IsScriptFault text (BadScript line) = (1 ≤ line) × (line ≤ length (lines_of text))
IsScriptFault text fault = ⊥
