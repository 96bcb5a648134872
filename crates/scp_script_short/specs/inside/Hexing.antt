-- Lines of an expanded script, in hex digits.
-- No public clause reaches this: nothing here need be believed.
use Rattle.std.specs.Prelude.{◌≡◌, ◌<◌, List, Option, Some}
use Rattle.scp_script_text.specs.scp_device.specs.declared.bad.WordFault.TheVariants.{Bad}
use Rattle.scp_script_text.specs.declared.script.Form.TheVariants.{Hex}
use Rattle.scp_script_text.specs.scp_device.specs.declared.bad.ReadFault.{ReadFault}
use Rattle.scp_script_text.specs.scp_device.specs.declared.bad.ReadFault.TheVariants as errors
use Rattle.scp_script_text.specs.Scripts.{IsLineOf, IsNoLineOf}
use Rattle.scp_script_short.specs.declared.hexing.HexError.{HexError}
use Rattle.scp_script_short.specs.declared.hexing.HexError.TheVariants.{NoMemory, TooLong, Short, Text}
use Rattle.scp_script_short.specs.declared.placed.PlacedLine.{PlacedLine}
use Rattle.scp_script_text.specs.scp_device.specs.declared.bad.BadLine.{BadLine}
use Rattle.scp_script_short.specs.Hexing.{IsFirst, IsRefusedLine}

-- the line in hex digits, with the same place
abbrev pub IsPlaced : PlacedLine → PlacedLine → Type 0
IsPlaced line out = IsLineOf Hex line.line out.line × (out.place ≡ line.place)

-- why a line can't be in hex digits, with its place
abbrev pub IsTold : PlacedLine → ReadFault → Type 0
IsTold line errors.NoMemory = Unit {0}
IsTold line (errors.Bad told) = IsNoLineOf Hex line.line (Bad told.bad) × (told.line ≡ line.place)
IsTold line (errors.BadAt at) = ⊥

-- what is reported of a refused text: the shorthand that was refused before it, if any, else the text
abbrev pub IsFirstTold : Option BadLine → BadLine → HexError → Type 0
IsFirstTold refused text NoMemory = ⊥
IsFirstTold refused text TooLong = ⊥
IsFirstTold refused text (Short short) = (refused ≡ Some short) × (short.line < text.line)
IsFirstTold refused text (Text told) = (told ≡ text) × IsFirst text.line refused

-- why the lines can't all be in hex digits: out of memory, or the first that can't
abbrev pub IsRefusedAmong : List PlacedLine → ReadFault → Type 0
IsRefusedAmong lines errors.NoMemory = Unit {0}
IsRefusedAmong lines (errors.Bad told) = IsRefusedLine lines told
IsRefusedAmong lines (errors.BadAt at) = ⊥
