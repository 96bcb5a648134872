-- Scripts of nodes or of one slot, line by line, in hex digits or as text (this project's profile).
use Rattle.std.specs.Prelude.{◌≡◌, ◌==◌, ℕ, ◌+◌, Bool, false, not, nat_eq, codes, List, [], ◌∷◌, ◌++◌, length, drop, Option, Some, None, is_some, Ok}
use Rattle.std.specs.List.{find, starts_with, slice_split, join_with_byte, AllByRecursion}
use Rattle.scp_text.specs.Messages.{words_of}
use Rattle.scp_text.specs.scp_device.specs.declared.bad.WordFault.{WordFault}
use Rattle.scp_text.specs.scp_device.specs.declared.bad.WordFault.TheVariants.{NoMemory, Bad}
use Rattle.scp_text.specs.scp_device.specs.declared.bad.BadLine.{BadLine}
use Rattle.scp_text.specs.scp_device.specs.declared.bad.ReadFault.{ReadFault}
use Rattle.scp_text.specs.scp_device.specs.declared.bad.ReadFault.TheVariants as faults
use Rattle.scp_script_text.specs.declared.nodes.Carried.{Carried}
use Rattle.scp_script_text.specs.declared.script.Kind.{Kind}
use Rattle.scp_script_text.specs.declared.script.Kind.TheVariants.{Nodes, Slot}
use Rattle.scp_script_text.specs.declared.script.Form.{Form}
use Rattle.scp_script_text.specs.declared.script.Form.TheVariants.{Hex, Text}
use Rattle.scp_script_text.specs.Lines.{carried_in, words_before, digits_of, digits_at, IsHexOf, IsNoHex, IsTextOf, IsNoText, IsShown}
use Rattle.scp_script_text.specs.SlotLines.{IsHexLine, IsNoHexLine}
use Rattle.scp_script_text.specs.SlotTexts.{IsTextLine}

-- the lines of a script; the last may end without a line feed
abbrev pub lines_of : List ℕ → List (List ℕ)
lines_of script = slice_split (λ byte. byte == 10) script

-- the line in this form, by what it carries; a line that carries nothing stays as it is
abbrev pub IsLineBy : Option Carried → Form → List ℕ → List ℕ → Type 0
IsLineBy (Some c) Hex line out = IsHexOf c (words_of line) line out
IsLineBy (Some c) Text line out = IsTextOf c (words_of line) line out
IsLineBy None form line out = out ≡ line

-- the line carries a message, a value or a quorum set, judged by its first word
abbrev pub carries : List ℕ → Bool
carries line = is_some (carried_in (words_of line))

-- the line in this form; a line that carries nothing stays as it is
abbrev pub IsLineOf : Form → List ℕ → List ℕ → Type 0
IsLineOf form line out = IsLineBy (carried_in (words_of line)) form line out

-- why a line isn't written in this form, by what it carries; a line that carries nothing fails only when out of memory
abbrev pub IsNoLineBy : Option Carried → Form → List ℕ → WordFault → Type 0
IsNoLineBy c form line NoMemory = Unit {0}
IsNoLineBy (Some c) Hex line (Bad refusal) = IsNoHex c (words_of line) (Bad refusal)
IsNoLineBy (Some c) Text line (Bad refusal) = IsNoText c (words_of line) (Bad refusal)
IsNoLineBy None form line (Bad refusal) = ⊥

-- why a line isn't written in this form: out of memory, or the first word that is refused
abbrev pub IsNoLineOf : Form → List ℕ → WordFault → Type 0
IsNoLineOf form line error = IsNoLineBy (carried_in (words_of line)) form line error

-- ---- which scripts are of a slot

-- the line is neither empty nor a comment
abbrev pub counts : List ℕ → Bool
counts [] = false
counts (byte ∷ bytes) = not (nat_eq byte 35)

-- there is a line, and it begins with `slot` and a space
abbrev pub begins_slot : Option (List ℕ) → Bool
begins_slot (Some line) = starts_with nat_eq line (codes "slot ")
begins_slot None = false

-- the script is one of a slot: its first line that is neither empty nor a comment begins with `slot` and a space
abbrev pub is_slot_script : List ℕ → Bool
is_slot_script script = begins_slot (find counts (lines_of script))

-- ---- scripts of either kind

-- the line of a script of this kind, in this form
abbrev pub IsLineIn : Kind → Form → List ℕ → List ℕ → Type 0
IsLineIn Nodes form line out = IsLineOf form line out
IsLineIn Slot Hex line out = IsHexLine line out
IsLineIn Slot Text line out = IsTextLine line out

-- why a line isn't written in this form; a line of a slot's script always has a text, if need be itself
abbrev pub IsNoLineIn : Kind → Form → List ℕ → WordFault → Type 0
IsNoLineIn Nodes form line fault = IsNoLineOf form line fault
IsNoLineIn Slot Hex line fault = IsNoHexLine line fault
IsNoLineIn Slot Text line NoMemory = Unit {0}
IsNoLineIn Slot Text line (Bad bad) = ⊥

-- there are as many lines on both sides, and the relation holds between each line and the line at its place on the other side
abbrev pub AreLines : (List ℕ → List ℕ → Type 0) → List (List ℕ) → List (List ℕ) → Type 0
AreLines Is [] [] = Unit {0}
AreLines Is (line ∷ lines) (out ∷ outs) = Is line out × AreLines Is lines outs
AreLines Is [] (out ∷ outs) = ⊥
AreLines Is (line ∷ lines) [] = ⊥

-- each line of a script of nodes in this form
abbrev pub AreLinesOf : Form → List (List ℕ) → List (List ℕ) → Type 0
AreLinesOf form lines outs = AreLines (IsLineOf form) lines outs

-- the script in this form: each of its lines, and a line feed between two
abbrev pub IsScriptOf : Kind → Form → List ℕ → List ℕ → Type 0
IsScriptOf kind form script out = (lines : List (List ℕ)) × AreLines (IsLineIn kind form) (lines_of script) lines × (out ≡ join_with_byte 10 lines)

-- this is the number of the first line, from 1 on, that can't be in this form, with the word that is refused
pub record IsRefusedLine (kind : Kind) (form : Form) (script : List ℕ) (bad : BadLine) : Type 0 where
  pub front : List (List ℕ)
  pub line : List ℕ
  pub back : List (List ℕ)
  pub outs : List (List ℕ)
  pub lines : lines_of script ≡ front ++ line ∷ back
  pub place : bad.line ≡ length front + 1
  pub written : AreLines (IsLineIn kind form) front outs
  pub refused : IsNoLineIn kind form line (Bad bad.bad)

-- why a script isn't written in this form: out of memory, or its first line that can't be in this form, with the word that is refused
abbrev pub IsRefusedScript : Kind → Form → List ℕ → ReadFault → Type 0
IsRefusedScript kind form script faults.NoMemory = Unit {0}
IsRefusedScript kind form script (faults.Bad bad) = IsRefusedLine kind form script bad
IsRefusedScript kind form script (faults.BadAt line) = ⊥

-- ---- there and back

-- what the line carries is in lower-case hex digits or a dash, and these encode something that has a text
abbrev pub IsReadableBy : Option Carried → List (List ℕ) → Type 0
IsReadableBy None words = Unit {0}
IsReadableBy (Some c) words =
    (bytes : List ℕ) × (text : List ℕ) × (digits_at (drop (words_before c) words) ≡ Ok bytes)
    × (drop (words_before c) words ≡ digits_of bytes ∷ []) × IsShown c bytes text

-- the same, by the line itself; true of a line that carries nothing
abbrev pub IsReadableLine : List ℕ → Type 0
IsReadableLine line = IsReadableBy (carried_in (words_of line)) (words_of line)

-- this holds for each line of the script
abbrev pub IsReadable : List ℕ → Type 0
IsReadable script = AllByRecursion IsReadableLine (lines_of script)

-- Take a script of nodes whose hex digits are lower-case and encode something. Made text, and then hex digits again, it is the same
-- script.
abbrev pub ScriptsComeBack : Type 0
ScriptsComeBack = (script text again : List ℕ) → IsReadable script → IsScriptOf Nodes Text script text → IsScriptOf Nodes Hex text again → again ≡ script

-- Take a script of nodes whose hex digits are lower-case and encode something. No line of its text is refused when it is made hex digits
-- again.
abbrev pub NoneIsRefused : Type 0
NoneIsRefused = (script text : List ℕ) (bad : BadLine) → IsReadable script → IsScriptOf Nodes Text script text → ¬ (IsRefusedLine Nodes Hex text bad)

-- each line of a slot's script is the same line in hex digits
abbrev pub IsInDigits : List ℕ → Type 0
IsInDigits script = AreLines IsHexLine (lines_of script) (lines_of script)

-- If each line of a slot's script is the same in hex digits, its text in hex digits is that script again, to the byte.
abbrev pub SlotScriptsComeBack : Type 0
SlotScriptsComeBack = (script text again : List ℕ) → IsInDigits script → IsScriptOf Slot Text script text → IsScriptOf Slot Hex text again → again ≡ script
