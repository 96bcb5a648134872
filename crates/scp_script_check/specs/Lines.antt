-- The lines of a script, in hex digits or as text, and the first bad one (this project's profile).
use Rattle.std.specs.Prelude.{◌≡◌, ◌⊎◌, ℕ, ◌+◌, true, List, [], ◌∷◌, ◌++◌, length, map, take, Option, Some, None, option_to_list}
use Rattle.std.specs.List.{list_any}
use Rattle.scp_script.specs.scp_device.specs.declared.bad.BadWord.{BadWord}
use Rattle.scp_script.specs.scp_device.specs.declared.bad.BadLine.{BadLine}
use Rattle.scp_script.specs.scp_device.specs.declared.bad.WordFault.TheVariants.{Bad}
use Rattle.scp_script.specs.scp_device.specs.declared.bad.ReadFault.{ReadFault}
use Rattle.scp_script.specs.scp_device.specs.declared.bad.ReadFault.TheVariants as faults
use Rattle.scp_script_text.specs.declared.script.Form.TheVariants.{Hex}
use Rattle.scp_script_text.specs.Scripts.{lines_of, carries, IsLineOf, IsNoLineOf, AreLinesOf}
use Rattle.scp_script.specs.declared.command.Command.{Command}
use Rattle.scp_script.specs.Words.{words_of}
use Rattle.scp_script.specs.Script.{command_in, commands_of, AreLines, HasSetLine}
use Rattle.scp_script.specs.Reading.{Stands}
use Rattle.scp_script.specs.Reasons.{byte_fault, IsLineFault}

-- ---- a script without a bad line

-- for each of these lines in hex digits that holds a command, its number; the first line has the number given
abbrev pub numbers_of : ℕ → List (List ℕ) → List ℕ
numbers_of number [] = []
numbers_of number (line ∷ lines) = map (λ (command : Command). number) (option_to_list (command_in (words_of line))) ++ numbers_of (number + 1) lines

-- Each line of the text can be in hex digits, and these lines form a script. Its commands and the numbers of their lines are these.
pub record IsSaid (text : List ℕ) (commands : List Command) (lines : List ℕ) : Type 0 where
  pub digits : List (List ℕ)
  pub written : AreLinesOf Hex (lines_of text) digits
  pub good : AreLines digits
  pub commands_are : commands ≡ commands_of digits
  pub lines_are : lines ≡ numbers_of 1 digits

-- ---- the first bad line

-- the line is bad after these commands: it can't be in hex digits, or it can and may not follow them
abbrev pub IsBad : List Command → List ℕ → Type 0
IsBad before line =
    ((bad : BadWord) × IsNoLineOf Hex line (Bad bad))
    ⊎ ((digits : List ℕ) × IsLineOf Hex line digits × (¬ (Stands before digits)))

-- which word of a line is bad: the one with bad bytes if there is one, else by its text, else by what its hex digits say
abbrev pub IsReasonBy : Option BadWord → List Command → List ℕ → Option BadWord → Type 0
IsReasonBy (Some bad) before line found = found ≡ Some bad
IsReasonBy None before line found =
    ((bad : BadWord) × IsNoLineOf Hex line (Bad bad) × (found ≡ Some bad))
    ⊎ ((digits : List ℕ) × IsLineOf Hex line digits × IsLineFault before digits found)

-- the first bad word of a line after these commands: by its bytes, else by its text, else by what its hex digits say
abbrev pub IsReason : List Command → List ℕ → Option BadWord → Type 0
IsReason before line found = IsReasonBy (byte_fault line) before line found

-- the line with this number, from 1 on, is the first bad one of the text: in hex digits, those before it form a script
pub record IsBadAt (text : List ℕ) (number : ℕ) : Type 0 where
  pub front : List (List ℕ)
  pub line : List ℕ
  pub back : List (List ℕ)
  pub digits : List (List ℕ)
  pub lines : lines_of text ≡ front ++ line ∷ back
  pub place : number ≡ length front + 1
  pub written : AreLinesOf Hex front digits
  pub good : AreLines digits
  pub is_bad : IsBad (commands_of digits) line

-- this is the first bad line of the text, with its first bad word
pub record IsFirstBad (text : List ℕ) (bad : BadLine) : Type 0 where
  pub line : IsBadAt text bad.line
  pub reason : IsReason (commands_of line.digits) line.line (Some bad.bad)

-- no line of the text is bad
abbrev pub IsGood : List ℕ → Type 0
IsGood text = (commands : List Command) × (lines : List ℕ) × IsSaid text commands lines

-- Out of memory may be reported for the text. Either no line is bad, or some line is a `set` line, or the first bad line or one before it
-- carries a message, a value or a quorum set. For any other text the first bad line is reported, which takes no memory.
abbrev pub MayWant : List ℕ → Type 0
MayWant text = IsGood text ⊎ (HasSetLine text ⊎ ((number : ℕ) → IsBadAt text number → list_any carries (take number (lines_of text)) ≡ true))

-- why a text isn't a script: out of memory, or its first bad line with its first bad word, or the number of that line alone
abbrev pub IsNotRead : List ℕ → ReadFault → Type 0
IsNotRead text faults.NoMemory = MayWant text
IsNotRead text (faults.Bad bad) = IsFirstBad text bad
IsNotRead text (faults.BadAt number) = IsBadAt text number
