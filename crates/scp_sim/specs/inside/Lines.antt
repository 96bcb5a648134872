-- The lines that say what happened, as they are written.
-- No public clause reaches these definitions, so nothing here needs to be believed.
use Rattle.std.specs.Prelude.{ℕ, ◌≡◌, ◌<◌, ◌^◌, true, List, [], ◌++◌, Some, codes}
use Rattle.std.specs.Fmt.{decimal}
use Rattle.hex.specs.Hex.{IsBytes}
use Rattle.scp_script_check.specs.scp_script_text.specs.Lines.{digits_of}
use Rattle.scp_line.specs.scp_script.specs.declared.command.Command.{Command}
use Rattle.scp_line.specs.scp_script.specs.declared.command.Command.TheVariants.{Caps, Nodes, Set, Open, Close, Send, Propose, Round, Timer, Tick, Ask, Settle, Wait, Report}
use Rattle.scp_line.specs.scp_script.specs.Script.{command_in, is_line}
use Rattle.scp_line.specs.scp_script.specs.Words.{words_of}
use Rattle.scp_sim.specs.Lines.{AreDone, text_of}

-- The line of a command, without its line end. It is empty for `caps`, `nodes` and `set`, with which a script begins; these are never
-- written.
abbrev pub line_of : Command → List ℕ
line_of (Caps capacities) = []
line_of (Nodes count quorum) = []
line_of (Set node set) = []
line_of (Open from to) = codes "open " ++ decimal from ++ codes " " ++ decimal to
line_of (Close from to) = codes "close " ++ decimal from ++ codes " " ++ decimal to
line_of (Send from to bytes) = codes "send " ++ decimal from ++ codes " " ++ decimal to ++ codes " " ++ digits_of bytes
line_of (Propose node slot value) = codes "propose " ++ decimal node ++ codes " " ++ decimal slot ++ codes " " ++ digits_of value
line_of (Round node slot) = codes "round " ++ decimal node ++ codes " " ++ decimal slot
line_of (Timer node slot) = codes "timer " ++ decimal node ++ codes " " ++ decimal slot
line_of (Tick node) = codes "tick " ++ decimal node
line_of (Ask from to slot) = codes "ask " ++ decimal from ++ codes " " ++ decimal to ++ codes " " ++ decimal slot
line_of Settle = codes "settle"
line_of (Wait node things) = codes "wait " ++ decimal node ++ codes " " ++ decimal things
line_of (Report node) = codes "report " ++ decimal node

-- Slots and counts in the command are below 2^64, and its bytes are bytes, as they always are in a program.
abbrev pub IsInRange : Command → Type 0
IsInRange (Caps capacities) = Unit {0}
IsInRange (Nodes count quorum) = Unit {0}
IsInRange (Set node set) = Unit {0}
IsInRange (Open from to) = Unit {0}
IsInRange (Close from to) = Unit {0}
IsInRange (Send from to bytes) = IsBytes bytes
IsInRange (Propose node slot value) = (slot < 2 ^ 64) × IsBytes value
IsInRange (Round node slot) = slot < 2 ^ 64
IsInRange (Timer node slot) = slot < 2 ^ 64
IsInRange (Tick node) = Unit {0}
IsInRange (Ask from to slot) = slot < 2 ^ 64
IsInRange Settle = Unit {0}
IsInRange (Wait node things) = things < 2 ^ 64
IsInRange (Report node) = Unit {0}

-- The line is a line of a script in digits, and says this command.
pub record Says (line : List ℕ) (command : Command) : Type 0 where
  pub good : is_line line ≡ true
  pub says : command_in (words_of line) ≡ Some command

-- The text consists of such lines.
pub record IsDoneText (text : List ℕ) : Type 0 where
  pub lines : List (List ℕ)
  pub is : text ≡ text_of lines
  pub are : AreDone lines
