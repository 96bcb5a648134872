-- The lines of a script in a trace, as the script has them in text (this project's profile).
use Rattle.std.specs.Prelude.{ℕ, List, ◌++◌, Result, Ok, Err, codes}
use Rattle.std.specs.Fmt.{decimal}
use Rattle.scp_line.specs.scp_types.specs.declared.fault.Fault.{Fault}
use Rattle.scp_line.specs.scp_types.specs.declared.fault.Fault.TheVariants.{Malformed}
use Rattle.scp_line.specs.scp_xdr.specs.Kind.{Values}
use Rattle.scp_line.specs.scp_wire.specs.Message.{message_kind, message_of, message_reading}
use Rattle.scp_line.specs.scp_types.specs.declared.capacities.Capacities.{Capacities}
use Rattle.scp_line.specs.scp_script.specs.declared.command.Command.{Command}
use Rattle.scp_line.specs.scp_script.specs.declared.command.Command.TheVariants.{Caps, Nodes, Set, Open, Close, Send, Propose, Round, Timer, Tick, Ask, Settle, Wait, Report}
use Rattle.scp_line.specs.scp_text.specs.Sets.{set_text}
use Rattle.scp_line.specs.scp_text.specs.Values.{value_text}
use Rattle.scp_stand_node.specs.scp_stand_slot.specs.declared.names.Names.{Names}
use Rattle.scp_trace_text.specs.Commands.{with_one}
use Rattle.scp_trace_text.specs.Messages.{message_named}

-- a word with two numbers after it
abbrev pub with_two : List ℕ → ℕ → ℕ → List ℕ
with_two word a b = word ++ codes " " ++ decimal a ++ codes " " ++ decimal b

-- a word with three numbers after it
abbrev pub with_three : List ℕ → ℕ → ℕ → ℕ → List ℕ
with_three word a b c = word ++ codes " " ++ decimal a ++ codes " " ++ decimal b ++ codes " " ++ decimal c

-- the words for the capacities of queues
abbrev pub caps_words : Capacities → List ℕ
caps_words caps = codes "caps " ++ decimal caps.link ++ codes " " ++ decimal caps.inbox ++ codes " " ++ decimal caps.ready ++ codes " " ++ decimal caps.decided

-- What a `send` line says: its message, or why its bytes aren't one. That is the place of the first bad byte, or that they are over a limit.
abbrev pub send_words : Names → ℕ → ℕ → Result (Values message_kind) Fault → List ℕ
send_words names from to (Ok read) = with_two (codes "send") from to ++ codes " " ++ message_named names (message_of read)
send_words names from to (Err (Malformed place)) = codes "malformed at " ++ decimal place
send_words names from to (Err fault) = codes "too-long"

-- what a line says
abbrev pub line_words : Names → Command → List ℕ
line_words names (Caps caps) = caps_words caps
line_words names (Nodes count quorum) = with_two (codes "nodes") count quorum
line_words names (Set node set) = with_one (codes "set") node ++ codes " " ++ set_text set
line_words names (Open from to) = with_two (codes "open") from to
line_words names (Close from to) = with_two (codes "close") from to
line_words names (Send from to bytes) = send_words names from to (message_reading bytes)
line_words names (Propose node slot value) = with_two (codes "propose") node slot ++ codes " " ++ value_text value
line_words names (Round node slot) = with_two (codes "round") node slot
line_words names (Timer node slot) = with_two (codes "timer") node slot
line_words names (Tick node) = with_one (codes "tick") node
line_words names (Ask from to slot) = with_three (codes "ask") from to slot
line_words names Settle = codes "settle"
line_words names (Wait node things) = with_two (codes "wait") node things
line_words names (Report node) = with_one (codes "report") node

-- the line which shows that the line of this number is done next
abbrev pub line_text : Names → ℕ → Command → List ℕ
line_text names line command = codes "line " ++ decimal line ++ codes " " ++ line_words names command ++ codes "\n"
