-- How a failure is reported: its exit status, its line in the fixed form, and its line for people (this project's profile).
use Rattle.std.specs.Prelude.{ℕ, ◌≡◌, List, [], ◌++◌, Option, Some, None, codes}
use Rattle.std.specs.Fmt.{decimal}
use Rattle.scp_device.specs.scp_types.specs.declared.fault.Fault.{Fault}
use Rattle.scp_device.specs.scp_types.specs.declared.fault.Fault.TheVariants as faults
use Rattle.scp_device.specs.scp_types.specs.declared.fault.Stage.{Stage}
use Rattle.scp_device.specs.scp_types.specs.declared.fault.Stage.TheVariants.{Reader, Pend, Slot, Apply}
use Rattle.scp_device.specs.scp_types.specs.Fault as fault-numbers
use Rattle.scp_device.specs.Expected.{expected_text}
use Rattle.scp_prompt.specs.declared.failure.Failure.{Failure}
use Rattle.scp_prompt.specs.declared.failure.Failure.TheVariants.{Word, Line, TooLong, Stopped, NoMemory, Unread, Unwritten}
use Rattle.scp_prompt.specs.declared.failure.Stop.{Stop}
use Rattle.scp_prompt.specs.Places.{IsStanding, place_line}

-- the exit status: 1 for a script or a message, 3 for a node, memory, a file or a stream
abbrev pub status_of : Failure → ℕ
status_of (Word bad) = 1
status_of (Line line) = 1
status_of (TooLong limit) = 1
status_of failure = 3

-- ---- the lines in the fixed form

-- the word of a stage
abbrev pub stage_word : Stage → List ℕ
stage_word Reader = codes "reader"
stage_word Pend = codes "pend"
stage_word Slot = codes "slot"
stage_word Apply = codes "apply"

-- The line in the fixed form of what stopped a play. The node's number appears only for `Failed` and `Refused`.
abbrev pub settled_stop : ℕ → Fault → List ℕ
settled_stop node faults.Failed = codes "fault 10 node " ++ decimal node ++ codes "\n"
settled_stop node (faults.Refused stage) = codes "fault 13 node " ++ decimal node ++ codes " " ++ stage_word stage ++ codes "\n"
settled_stop node fault = codes "fault " ++ decimal (fault-numbers.number_of fault) ++ codes "\n"

-- the line of a failure in the fixed form
abbrev pub settled_line : Failure → List ℕ
settled_line (Word bad) =
    codes "fault 12 line " ++ decimal bad.line ++ codes " at " ++ decimal bad.bad.word ++ codes ": " ++ expected_text bad.bad.expected ++ codes "\n"
settled_line (Line line) = codes "fault 12 line " ++ decimal line ++ codes "\n"
settled_line (TooLong limit) = codes "fault 3\n"
settled_line (Stopped stop) = settled_stop stop.node stop.fault
settled_line NoMemory = codes "fault 1\n"
settled_line Unread = codes "fault 14\n"
settled_line Unwritten = codes "fault 14\n"

-- ---- the lines for people

-- a line that begins with a name and a colon
abbrev pub counted_line : List ℕ → List ℕ → List ℕ
counted_line name text = name ++ codes ": " ++ text ++ codes "\n"

-- the words before the number in the line of what stopped a play
abbrev pub stop_front : Fault → List ℕ
stop_front faults.Failed = codes "node "
stop_front (faults.Refused stage) = codes "node "
stop_front fault = codes "fault "

-- the node that failed, or the fault's number
abbrev pub stop_number : ℕ → Fault → ℕ
stop_number node faults.Failed = node
stop_number node (faults.Refused stage) = node
stop_number node fault = fault-numbers.number_of fault

-- the words for the stage of a node that failed
abbrev pub stage_text : Stage → List ℕ
stage_text Reader = codes " failed in a reader of its links"
stage_text Pend = codes " failed where messages wait for quorum sets"
stage_text Slot = codes " failed in its slots"
stage_text Apply = codes " failed in its applier"

-- the words after the number
abbrev pub stop_back : Fault → List ℕ
stop_back faults.Failed = codes " failed: memory ran out, or its journal is full"
stop_back (faults.Refused stage) = stage_text stage
stop_back faults.Full = codes ": a queue had no room, also after a settle"
stop_back faults.NotOpen = codes ": a link stood otherwise than the lines say"
stop_back fault = []

-- the input's name, and the line if it is known
abbrev pub place_text : List ℕ → Option ℕ → List ℕ
place_text name None = name
place_text name (Some line) = name ++ codes ":" ++ decimal line

-- the line of what stopped a play
abbrev pub stop_end : List ℕ → Stop → List ℕ
stop_end name stop = counted_line (place_text name stop.line) (stop_front stop.fault ++ decimal (stop_number stop.node stop.fault) ++ stop_back stop.fault)

-- The line that shows people a failure of the input with this name and these bytes. `why` says why a stream failed.
abbrev pub IsToldLine : List ℕ → List ℕ → List ℕ → Failure → List ℕ → Type 0
IsToldLine name text why (Word bad) line =
    (stands : List ℕ) × IsStanding text bad.line bad.bad.word stands × (line ≡ place_line name bad.line bad.bad.word stands (expected_text bad.bad.expected))
IsToldLine name text why (Line n) line = line ≡ counted_line (name ++ codes ":" ++ decimal n) (codes "the line is refused")
IsToldLine name text why (TooLong limit) line = line ≡ counted_line name (codes "it has more than " ++ decimal limit ++ codes " bytes")
IsToldLine name text why (Stopped stop) line = line ≡ stop_end name stop
IsToldLine name text why NoMemory line = line ≡ counted_line name (codes "memory ran out")
IsToldLine name text why Unread line = line ≡ counted_line name why
IsToldLine name text why Unwritten line = line ≡ counted_line (codes "<stdout>") why
