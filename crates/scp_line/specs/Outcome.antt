-- How a fault is reported, and which faults a call may have.
use Rattle.std.specs.Prelude.{ℕ, List, ◌++◌, codes}
use Rattle.std.specs.Fmt.{decimal}
use Rattle.scp_turn.specs.scp_types.specs.declared.fault.Fault.{Fault}
use Rattle.scp_turn.specs.scp_types.specs.declared.fault.Fault.TheVariants.{NoMemory, Malformed, TooLong, Full, Failed, BadScript, Refused, Device}
use Rattle.scp_turn.specs.scp_types.specs.declared.fault.Stage.{Stage}
use Rattle.scp_turn.specs.scp_types.specs.declared.fault.Stage.TheVariants.{Reader, Pend, Slot, Apply}
use Rattle.scp_turn.specs.scp_types.specs.Fault.{number_of}

-- the word of a stage
abbrev pub stage_word : Stage → List ℕ
stage_word Reader = codes "reader"
stage_word Pend = codes "pend"
stage_word Slot = codes "slot"
stage_word Apply = codes "apply"

-- The line that reports a fault. The node's number appears only for `Failed` and `Refused`.
abbrev pub fault_line : ℕ → Fault → List ℕ
fault_line node (BadScript line) = codes "fault 12 line " ++ decimal line ++ codes "\n"
fault_line node Failed = codes "fault 10 node " ++ decimal node ++ codes "\n"
fault_line node (Refused stage) = codes "fault 13 node " ++ decimal node ++ codes " " ++ stage_word stage ++ codes "\n"
fault_line node fault = codes "fault " ++ decimal (number_of fault) ++ codes "\n"

-- The exit status of a fault: 1 for a script or message that is malformed, too long or bad, 3 for every other fault.
abbrev pub status_of : Fault → ℕ
status_of (Malformed place) = 1
status_of TooLong = 1
status_of (BadScript line) = 1
status_of fault = 3

-- Why a check refuses: out of memory, the script is too long, the reader or the writer failed, or a line is bad.
abbrev pub IsCheckFault : Fault → Type 0
IsCheckFault NoMemory = Unit {0}
IsCheckFault TooLong = Unit {0}
IsCheckFault Device = Unit {0}
IsCheckFault (BadScript line) = Unit {0}
IsCheckFault fault = ⊥

-- Why a script isn't played: out of memory, the script is too long, the reader or the writer failed, a line is bad, a node failed, or a queue
-- was full even after a settle.
abbrev pub IsPlayFault : Fault → Type 0
IsPlayFault NoMemory = Unit {0}
IsPlayFault TooLong = Unit {0}
IsPlayFault Device = Unit {0}
IsPlayFault (BadScript line) = Unit {0}
IsPlayFault Failed = Unit {0}
IsPlayFault Full = Unit {0}
IsPlayFault fault = ⊥
