-- Why commands fail (this project's profile).
use Rattle.std.specs.Prelude.{ℕ, ◌≡◌, ◌⊎◌, ◌≤◌, ◌<◌, Bool, true, false, List, [], All, length, Some, None}
use Rattle.scp_script_short.specs.scp_types.specs.declared.limits.TheConstants.{SCRIPT_LIMIT}
use Rattle.scp_notices.specs.scp_gather.specs.Kv.{NodeReport}
use Rattle.scp_notices.specs.scp_turn.specs.Network.{NetworkView}
use Rattle.scp_script_hints.specs.scp_script.specs.declared.command.Command.{Command}
use Rattle.scp_notices.specs.scp_line.specs.declared.playing.PlayFault.{PlayFault}
use Rattle.scp_notices.specs.scp_line.specs.Nodes.{IsStoppedAt}
use Rattle.scp_notices.specs.scp_threaded_script.specs.Reported.{AreNodesReported}
use Rattle.scp_draw.specs.scp_facts.specs.declared.happening.Kept.{Kept}
use Rattle.scp_account.specs.Run.{IsKept}
use Rattle.scp_account.specs.Fits.{FitsNode}
use Rattle.scp_notices.specs.scp_report.specs.Node.{reports_of}
use Rattle.scp_notices.specs.scp_line.specs.Left.{reports_left}
use Rattle.scp_script_short.specs.scp_device.specs.declared.bad.BadLine.{BadLine}
use Rattle.scp_script_short.specs.scp_script_text.specs.declared.script.Kind.TheVariants.{Nodes as OfNodes, Slot as OfSlot}
use Rattle.scp_script_short.specs.scp_script_text.specs.declared.script.Form.TheVariants.{Hex as AsHex, Text as AsText}
use Rattle.scp_script_short.specs.scp_script_text.specs.Scripts.{is_slot_script, IsScriptOf, IsRefusedLine}
use Rattle.scp_script_short.specs.declared.expanded.TheConstants.{LINE_LIMIT}
use Rattle.scp_script_short.specs.declared.hexing.HexError.TheVariants.{Short, Text as HexText}
use Rattle.scp_script_short.specs.Hexing.{IsNotHexed}
use Rattle.scp_script_short.specs.Scripts.{said_in, weight_in}
use Rattle.scp_notices.specs.Run.{IsStoppedOf}
use Rattle.scp_notices.specs.Threads.{IsEndedOf}
use Rattle.scp_notices.specs.scp_script_check.specs.Lines.{IsFirstBad, IsBadAt, IsSaid}
use Rattle.scp_draw.specs.scp_trace.specs.declared.depth.Depth.{Depth}
use Rattle.scp_draw.specs.scp_trace.specs.declared.depth.Depth.TheVariants.{Stands, Whole}
use Rattle.scp_draw.specs.scp_trace.specs.declared.playing.Traced.{Traced}
use Rattle.scp_draw.specs.scp_trace.specs.Traced.{IsTraced}
use Rattle.scp_convert.specs.scp_prompt.specs.declared.asked.Task.{Task}
use Rattle.scp_convert.specs.scp_prompt.specs.declared.asked.Task.TheVariants.{Run, Account, Check, Stand, Trace, Draw, Slot, Quorums, Hex, Text}
use Rattle.scp_convert.specs.scp_prompt.specs.declared.asked.Mode.{Mode}
use Rattle.scp_convert.specs.scp_prompt.specs.declared.asked.Mode.TheVariants.{Serial, Threads}
use Rattle.scp_convert.specs.scp_prompt.specs.declared.failure.Failure.{Failure}
use Rattle.scp_convert.specs.scp_prompt.specs.declared.failure.Failure.TheVariants.{Word, Line, TooLong, NoMemory}
use Rattle.scp_command.specs.declared.given.Given.{Given}
use Rattle.scp_command.specs.Given.{IsGiven, IsAtLine, bad_of, placed, stop_of}
use Rattle.scp_command.specs.Converting.{lines_of}

-- The failure is the first bad line of the script that the input is.
pub record IsBadInput (input : List ℕ) (failure : Failure) : Type 0 where
  pub given : Given
  pub is_given : IsGiven input given
  pub bad : BadLine
  pub is_bad : IsFirstBad given.text.items bad
  pub of_bad : failure ≡ bad_of given.expanded bad

-- The failure is the first bad line of the script that the input is, by its number alone.
pub record IsBadInputAt (input : List ℕ) (failure : Failure) : Type 0 where
  pub given : Given
  pub is_given : IsGiven input given
  pub number : ℕ
  pub is_bad : IsBadAt given.text.items number
  pub line : failure ≡ Line (placed given.expanded.lines number)

-- The shorthands of the input weigh more than the limit. The failure is `TooLong` with 1,048,576.
abbrev pub IsHeavy : List ℕ → Failure → Type 0
IsHeavy input failure = (failure ≡ TooLong SCRIPT_LIMIT) × (LINE_LIMIT < weight_in (said_in input))

-- why an input isn't a script: out of memory, the weight of its shorthands, or its first bad line
abbrev pub IsNoScript : List ℕ → Failure → Type 0
IsNoScript input failure = (failure ≡ NoMemory) ⊎ (IsHeavy input failure ⊎ (IsBadInput input failure ⊎ IsBadInputAt input failure))

-- A line of the script that the input is wasn't done. The failure names that line of the input.
pub record IsStoppedInput (input : List ℕ) (failure : Failure) : Type 0 where
  pub given : Given
  pub is_given : IsGiven input given
  pub line : ℕ
  pub fault : PlayFault
  pub stopped : IsStoppedOf given.text.items line fault
  pub of_stop : failure ≡ stop_of (Some (placed given.expanded.lines line)) fault

-- The nodes of the script that the input is ran in threads, and ended with a fault.
pub record IsGivenUpInput (input : List ℕ) (failure : Failure) : Type 0 where
  pub given : Given
  pub is_given : IsGiven input given
  pub fault : PlayFault
  pub ended : IsEndedOf given.text.items fault
  pub of_stop : failure ≡ stop_of None fault

-- why a script isn't played, by its mode
abbrev pub IsNotRun : Mode → List ℕ → Failure → Type 0
IsNotRun Serial input failure = IsStoppedInput input failure
IsNotRun Threads input failure = IsGivenUpInput input failure

-- A line of the script that the input is wasn't done, after these lines. The failure names no line.
pub record IsStoppedScript (input : List ℕ) (failure : Failure) : Type 0 where
  pub given : Given
  pub is_given : IsGiven input given
  pub commands : List Command
  pub lines : List ℕ
  pub said : IsSaid given.text.items commands lines
  pub before : List Command
  pub fault : PlayFault
  pub stopped : IsStoppedAt commands before fault
  pub of_stop : failure ≡ stop_of None fault

-- The nodes that played the script, or what their threads left, hold something that is over a limit, and so has no encoding.
pub record IsUnfit (input : List ℕ) (failure : Failure) : Type 0 where
  pub given : Given
  pub is_given : IsGiven input given
  pub commands : List Command
  pub lines : List ℕ
  pub said : IsSaid given.text.items commands lines
  pub fault : PlayFault
  pub of_stop : failure ≡ stop_of None fault
  pub unfit : ((network : NetworkView) × (kept : List Kept) × IsKept commands network kept × ¬ (All FitsNode (reports_of network.nodes))) ⊎ ((nodes : List NodeReport) × AreNodesReported commands nodes × ¬ (All FitsNode (reports_left commands nodes [])))

-- What is shown of a run, at this depth, ends with a fault.
pub record IsCutTrace (depth : Depth) (input : List ℕ) (failure : Failure) : Type 0 where
  pub given : Given
  pub is_given : IsGiven input given
  pub told : Traced
  pub is_told : IsTraced depth given.text.items told
  pub fault : PlayFault
  pub ended : told.fault ≡ Some fault
  pub of_stop : failure ≡ stop_of None fault

-- why nothing is shown of a run
abbrev pub IsNotTraced : Depth → List ℕ → Failure → Type 0
IsNotTraced depth input failure = IsNoScript input failure ⊎ IsCutTrace depth input failure

-- ---- scripts of one slot, and other forms

-- why a slot's script has no form in hex digits: out of memory, or its first word that has none
abbrev pub IsNoSlotDigits : List ℕ → Failure → Type 0
IsNoSlotDigits input failure = (failure ≡ NoMemory) ⊎ ((bad : BadLine) × IsRefusedLine OfSlot AsHex input bad × (failure ≡ Word bad))

-- The failure is out of memory, or at a line of the slot's script, counted in its hex digits.
abbrev pub IsSlotLine : List ℕ → Failure → Type 0
IsSlotLine input failure = (failure ≡ NoMemory) ⊎ ((digits : List ℕ) × (line : ℕ) × IsScriptOf OfSlot AsHex input digits × (1 ≤ line) × (line ≤ length (lines_of digits)) × IsAtLine line failure)

-- why a script has no form in hex digits, by whether it is of one slot
abbrev pub IsNoHexBy : Bool → List ℕ → Failure → Type 0
IsNoHexBy true input failure = IsNoSlotDigits input failure
IsNoHexBy false input failure =
    (failure ≡ NoMemory) ⊎ (IsHeavy input failure
    ⊎ (((bad : BadLine) × IsNotHexed input (Short bad) × (failure ≡ Word bad))
    ⊎ ((bad : BadLine) × IsNotHexed input (HexText bad) × (failure ≡ Word bad))))

-- why a script has no form as text, by whether it is of one slot
abbrev pub IsNoTextBy : Bool → List ℕ → Failure → Type 0
IsNoTextBy true input failure = failure ≡ NoMemory
IsNoTextBy false input failure = (failure ≡ NoMemory) ⊎ ((bad : BadLine) × IsRefusedLine OfNodes AsText input bad × (failure ≡ Word bad))

-- ---- all commands

-- why a command fails on an input
abbrev pub Fails : Task → List ℕ → Failure → Type 0
Fails (Run mode shape) input failure = IsNoScript input failure ⊎ IsNotRun mode input failure
Fails (Account mode) input failure = IsNoScript input failure ⊎ (IsNotRun mode input failure ⊎ IsUnfit input failure)
Fails Check input failure = IsNoScript input failure
Fails Stand input failure = IsNotTraced Stands input failure
Fails Trace input failure = IsNotTraced Whole input failure
Fails Draw input failure = IsNoScript input failure ⊎ IsStoppedScript input failure
Fails Slot input failure = IsNoSlotDigits input failure ⊎ IsSlotLine input failure
Fails Quorums input failure = IsNoScript input failure
Fails Hex input failure = IsNoHexBy (is_slot_script input) input failure
Fails Text input failure = IsNoTextBy (is_slot_script input) input failure
