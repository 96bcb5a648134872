-- Scripts with shorthand, in hex digits (this project's profile).
use Rattle.std.specs.Prelude.{◌≡◌, ◌⊎◌, ◌<◌, ◌≤◌, ℕ, List, [], ◌∷◌, ◌++◌, Option, Some, None}
use Rattle.scp_script_text.specs.scp_device.specs.declared.bad.WordFault.TheVariants.{Bad}
use Rattle.scp_script_text.specs.declared.script.Form.TheVariants.{Hex}
use Rattle.scp_script_text.specs.Scripts.{IsLineOf, IsNoLineOf}
use Rattle.scp_script_short.specs.declared.expanded.Expanded.{Expanded}
use Rattle.scp_script_short.specs.declared.expanded.TheConstants.{LINE_LIMIT}
use Rattle.scp_script_short.specs.declared.hexing.HexError.{HexError}
use Rattle.scp_script_short.specs.declared.hexing.HexError.TheVariants.{NoMemory, TooLong, Short, Text}
use Rattle.scp_script_short.specs.declared.placed.PlacedLine.{PlacedLine}
use Rattle.scp_script_text.specs.scp_device.specs.declared.bad.BadLine.{BadLine}
use Rattle.scp_script_short.specs.Scripts.{said_in, script_of, weight_in, IsExpanded}

-- each of the lines in hex digits, with the same place
abbrev pub AreDigits : List PlacedLine → List PlacedLine → Type 0
AreDigits [] [] = Unit {0}
AreDigits (line ∷ lines) (out ∷ outs) = IsLineOf Hex line.line out.line × (out.place ≡ line.place) × AreDigits lines outs
AreDigits [] (out ∷ outs) = ⊥
AreDigits (line ∷ lines) [] = ⊥

-- this is the first line that can't be in hex digits; it is reported by its place
pub record IsRefusedLine (lines : List PlacedLine) (told : BadLine) : Type 0 where
  pub front : List PlacedLine
  pub line : PlacedLine
  pub back : List PlacedLine
  pub outs : List PlacedLine
  pub parts : lines ≡ front ++ line ∷ back
  pub written : AreDigits front outs
  pub refused : IsNoLineOf Hex line.line (Bad told.bad)
  pub place : told.line ≡ line.place

-- no shorthand is refused, and the script is the lines in hex digits, with a line feed between two
pub record IsHexedFrom (expanded : Expanded) (digits : List ℕ) : Type 0 where
  pub outs : List PlacedLine
  pub none : expanded.refused ≡ None
  pub written : AreDigits expanded.lines outs
  pub joined : digits ≡ script_of outs

-- no refused shorthand comes before this line
abbrev pub IsFirst : ℕ → Option BadLine → Type 0
IsFirst line None = Unit {0}
IsFirst line (Some refused) = line ≤ refused.line

-- all lines can be in hex digits, or the place of the first that can't is after this one
abbrev pub NoneBefore : List PlacedLine → ℕ → Type 0
NoneBefore lines place =
    ((outs : List PlacedLine) × AreDigits lines outs)
    ⊎ ((text : BadLine) × IsRefusedLine lines text × (place < text.line))

-- Why an expanded script isn't in hex digits: out of memory, its first refused shorthand with no refused line before it, or its first
-- refused line with no refused shorthand before it.
abbrev pub IsNotHexedFrom : Expanded → HexError → Type 0
IsNotHexedFrom expanded NoMemory = Unit {0}
IsNotHexedFrom expanded TooLong = ⊥
IsNotHexedFrom expanded (Short short) = (expanded.refused ≡ Some short) × NoneBefore expanded.lines short.line
IsNotHexedFrom expanded (Text text) = IsRefusedLine expanded.lines text × IsFirst text.line expanded.refused

-- the script is expanded, and written in hex digits
abbrev pub IsHexed : List ℕ → List ℕ → Type 0
IsHexed script digits = (expanded : Expanded) × IsExpanded script expanded × IsHexedFrom expanded digits

-- why a script isn't in hex digits: out of memory, shorthands that weigh too much, or its first refused line
abbrev pub IsNotHexed : List ℕ → HexError → Type 0
IsNotHexed script NoMemory = Unit {0}
IsNotHexed script TooLong = LINE_LIMIT < weight_in (said_in script)
IsNotHexed script (Short short) = (expanded : Expanded) × IsExpanded script expanded × IsNotHexedFrom expanded (Short short)
IsNotHexed script (Text text) = (expanded : Expanded) × IsExpanded script expanded × IsNotHexedFrom expanded (Text text)
