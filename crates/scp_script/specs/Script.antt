-- What a script says (this project's profile): the command of each line, which commands may follow others, and which line is bad.
use Rattle.std.specs.Prelude.{ℕ, ◌-◌, ◌<◌, ◌≤◌, ◌≡◌, ◌≢◌, Bool, true, false, ◌&&◌, ◌||◌, List, [], ◌∷◌, ◌++◌, length, take, flat_map, fold, count_by, Option, Some, None, is_some, option_map, option_to_list, if◌then◌else◌, nat_eq, nat_le, codes}
use Rattle.std.specs.List.{list_any, list_all}
use Rattle.scp_wire.specs.scp_types.specs.declared.limits.TheConstants.{LIFE_LIMIT}
use Rattle.scp_wire.specs.scp_types.specs.declared.fault.Fault.{Fault}
use Rattle.scp_wire.specs.scp_types.specs.declared.fault.Fault.TheVariants.{NoMemory, BadScript}
use Rattle.scp_wire.specs.scp_quorum.specs.QuorumTree.{QuorumTree}
use Rattle.scp_wire.specs.scp_quorum.specs.Sane.{IsSane}
use Rattle.scp_script.specs.declared.command.Command.{Command}
use Rattle.scp_script.specs.declared.command.Command.TheVariants.{Caps, Nodes, Set, Open, Close, Send, Propose, Round, Timer, Tick, Ask, Settle, Wait, Report}
use Rattle.scp_script.specs.Words.{lines_of, is_ascii, is_skipped, words_of, same, node_in, link_in, number_in, capacity_in, hex_bytes, set_in}

-- ---- the command of a line

-- the `caps` command with these capacities, if all four are given
abbrev pub caps_by : Option ℕ → Option ℕ → Option ℕ → Option ℕ → Option Command
caps_by (Some link) (Some inbox) (Some ready) (Some decided) =
    Some (Caps (record { link = link; inbox = inbox; ready = ready; decided = decided }))
caps_by (Some link) (Some inbox) (Some ready) None = None
caps_by (Some link) (Some inbox) None decided = None
caps_by (Some link) None ready decided = None
caps_by None inbox ready decided = None

-- the `nodes` command with this count and this threshold, if both are given and the threshold is at most the count
abbrev pub nodes_by : Option ℕ → Option ℕ → Option Command
nodes_by (Some count) (Some quorum) = if nat_le quorum count then Some (Nodes count quorum) else None
nodes_by (Some count) None = None
nodes_by None quorum = None

-- the command that gives this node this quorum set, if both are given
abbrev pub set_by : Option ℕ → Option QuorumTree → Option Command
set_by (Some node) (Some set) = Some (Set node set)
set_by (Some node) None = None
set_by None set = None

-- the command that opens this link, if one is given
abbrev pub open_by : Option (ℕ × ℕ) → Option Command
open_by (Some link) = Some (Open link.0 link.1)
open_by None = None

-- the command that closes this link, if one is given
abbrev pub close_by : Option (ℕ × ℕ) → Option Command
close_by (Some link) = Some (Close link.0 link.1)
close_by None = None

-- the command that sends these bytes on this link, if both are given
abbrev pub send_by : Option (ℕ × ℕ) → Option (List ℕ) → Option Command
send_by (Some link) (Some bytes) = Some (Send link.0 link.1 bytes)
send_by (Some link) None = None
send_by None bytes = None

-- the command by which the link's first node asks its second for the record of this slot, if both are given
abbrev pub ask_by : Option (ℕ × ℕ) → Option ℕ → Option Command
ask_by (Some link) (Some slot) = Some (Ask link.0 link.1 slot)
ask_by (Some link) None = None
ask_by None slot = None

-- the command that proposes this value for this slot at this node, if all three are given
abbrev pub propose_by : Option ℕ → Option ℕ → Option (List ℕ) → Option Command
propose_by (Some node) (Some slot) (Some value) = Some (Propose node slot value)
propose_by (Some node) (Some slot) None = None
propose_by (Some node) None value = None
propose_by None slot value = None

-- the command that begins the next round of this slot's nomination at this node, if both are given
abbrev pub round_by : Option ℕ → Option ℕ → Option Command
round_by (Some node) (Some slot) = Some (Round node slot)
round_by (Some node) None = None
round_by None slot = None

-- the command by which this slot's timer expires at this node, if both are given
abbrev pub timer_by : Option ℕ → Option ℕ → Option Command
timer_by (Some node) (Some slot) = Some (Timer node slot)
timer_by (Some node) None = None
timer_by None slot = None

-- the command that waits until this many things reach the applier of this node, if both are given
abbrev pub wait_by : Option ℕ → Option ℕ → Option Command
wait_by (Some node) (Some things) = Some (Wait node things)
wait_by (Some node) None = None
wait_by None things = None

-- The command that the words of a line say, if they say one. With one word it is `settle`, with two `tick I` and `report I`.
-- With three it is `nodes N K`, `set I HEX`, `open I J`, `close I J`, `round I SLOT`, `timer I SLOT` and `wait I N`.
-- With four it is `ask I J SLOT`, `send I J HEX` and `propose I SLOT HEX`, and with five `caps A B C D`.
abbrev pub command_in : List (List ℕ) → Option Command
command_in [] = None
command_in (verb ∷ []) = if same verb (codes "settle") then Some Settle else None
command_in (verb ∷ node ∷ []) =
    if same verb (codes "tick") then option_map Tick (node_in node)
    else (if same verb (codes "report") then option_map Report (node_in node) else None)
command_in (verb ∷ first ∷ second ∷ []) =
    if same verb (codes "nodes") then nodes_by (node_in first) (node_in second)
    else (if same verb (codes "set") then set_by (node_in first) (set_in (hex_bytes second))
    else (if same verb (codes "open") then open_by (link_in first second)
    else (if same verb (codes "close") then close_by (link_in first second)
    else (if same verb (codes "round") then round_by (node_in first) (number_in second)
    else (if same verb (codes "timer") then timer_by (node_in first) (number_in second)
    else (if same verb (codes "wait") then wait_by (node_in first) (number_in second) else None))))))
command_in (verb ∷ first ∷ second ∷ third ∷ []) =
    if same verb (codes "ask") then ask_by (link_in first second) (number_in third)
    else (if same verb (codes "send") then send_by (link_in first second) (hex_bytes third)
    else (if same verb (codes "propose") then propose_by (node_in first) (number_in second) (hex_bytes third) else None))
command_in (verb ∷ link ∷ inbox ∷ ready ∷ decided ∷ []) =
    if same verb (codes "caps") then caps_by (capacity_in link) (capacity_in inbox) (capacity_in ready) (capacity_in decided) else None
command_in (verb ∷ a ∷ b ∷ c ∷ d ∷ more ∷ words) = None

-- the commands of lines, in their order
abbrev pub commands_of : List (List ℕ) → List Command
commands_of lines = flat_map (λ line. option_to_list (command_in (words_of line))) lines

-- ---- what commands before a line leave

-- how many nodes there are after a command, given how many there were before it
abbrev pub counted : ℕ → Command → ℕ
counted before (Caps capacities) = before
counted before (Nodes count quorum) = count
counted before (Set node set) = before
counted before (Open from to) = before
counted before (Close from to) = before
counted before (Send from to bytes) = before
counted before (Propose node slot value) = before
counted before (Round node slot) = before
counted before (Timer node slot) = before
counted before (Tick node) = before
counted before (Ask from to slot) = before
counted before Settle = before
counted before (Wait node things) = before
counted before (Report node) = before

-- how many nodes there are after these commands: none before the `nodes` line
abbrev pub node_count : List Command → ℕ
node_count commands = fold counted 0 commands

-- the command is not of a `caps`, `nodes` or `set` line, so no quorum set may be given after it
abbrev pub begins : Command → Bool
begins (Caps capacities) = false
begins (Nodes count quorum) = false
begins (Set node set) = false
begins (Open from to) = true
begins (Close from to) = true
begins (Send from to bytes) = true
begins (Propose node slot value) = true
begins (Round node slot) = true
begins (Timer node slot) = true
begins (Tick node) = true
begins (Ask from to slot) = true
begins Settle = true
begins (Wait node things) = true
begins (Report node) = true

-- one of the commands is neither a `caps` nor a `nodes` nor a `set` line's
abbrev pub has_begun : List Command → Bool
has_begun commands = list_any begins commands

-- both are the link between the same nodes, in the same direction
abbrev pub is_link : ℕ → ℕ → ℕ → ℕ → Bool
is_link from to from2 to2 = nat_eq from from2 && nat_eq to to2

-- the command opens this link
abbrev pub opens : ℕ → ℕ → Command → Bool
opens from to (Caps capacities) = false
opens from to (Nodes count quorum) = false
opens from to (Set node set) = false
opens from to (Open from2 to2) = is_link from to from2 to2
opens from to (Close from2 to2) = false
opens from to (Send from2 to2 bytes) = false
opens from to (Propose node slot value) = false
opens from to (Round node slot) = false
opens from to (Timer node slot) = false
opens from to (Tick node) = false
opens from to (Ask from2 to2 slot) = false
opens from to Settle = false
opens from to (Wait node things) = false
opens from to (Report node) = false

-- the command closes this link
abbrev pub closes : ℕ → ℕ → Command → Bool
closes from to (Caps capacities) = false
closes from to (Nodes count quorum) = false
closes from to (Set node set) = false
closes from to (Open from2 to2) = false
closes from to (Close from2 to2) = is_link from to from2 to2
closes from to (Send from2 to2 bytes) = false
closes from to (Propose node slot value) = false
closes from to (Round node slot) = false
closes from to (Timer node slot) = false
closes from to (Tick node) = false
closes from to (Ask from2 to2 slot) = false
closes from to Settle = false
closes from to (Wait node things) = false
closes from to (Report node) = false

-- the link is open: the last command that opens or closes it is one that opens it
abbrev pub is_open : ℕ → ℕ → List Command → Bool
is_open from to commands =
    fold (λ before command. if opens from to command then true else (if closes from to command then false else before)) false commands

-- how often the link was opened
abbrev pub lives : ℕ → ℕ → List Command → ℕ
lives from to commands = count_by (opens from to) commands

-- ---- which commands may follow others

-- the number of a node that exists: from 1 to the number of nodes
abbrev pub IsNode : ℕ → List Command → Type 0
IsNode node before = (1 ≤ node) × (node ≤ node_count before)

-- a link between two nodes that exist and differ
abbrev pub IsLink : ℕ → ℕ → List Command → Type 0
IsLink from to before = IsNode from before × IsNode to before × (from ≢ to)

-- The command may follow these: first `caps` lines, then one `nodes` line, then `set` lines, each with a sane quorum set, and then the
-- others. A link is opened only while it isn't open, at most 65,535 times. It is closed and sent on only while it is open. Each node that
-- a command names must exist.
abbrev pub Admits : List Command → Command → Type 0
Admits before (Caps capacities) = node_count before ≡ 0
Admits before (Nodes count quorum) = node_count before ≡ 0
Admits before (Set node set) = IsNode node before × (has_begun before ≡ false) × IsSane set
Admits before (Open from to) = IsLink from to before × (is_open from to before ≡ false) × (lives from to before < LIFE_LIMIT)
Admits before (Close from to) = is_open from to before ≡ true
Admits before (Send from to bytes) = is_open from to before ≡ true
Admits before (Propose node slot value) = IsNode node before
Admits before (Round node slot) = IsNode node before
Admits before (Timer node slot) = IsNode node before
Admits before (Tick node) = IsNode node before
Admits before (Ask from to slot) = IsLink from to before
Admits before Settle = 1 ≤ node_count before
Admits before (Wait node things) = IsNode node before
Admits before (Report node) = IsNode node before

-- each of the commands may follow those before it
abbrev pub AreAdmitted : List Command → List Command → Type 0
AreAdmitted before [] = Unit {0}
AreAdmitted before (command ∷ commands) = Admits before command × AreAdmitted (before ++ command ∷ []) commands

-- ---- scripts

-- the line is ASCII, and it is empty, a comment, or says a command
abbrev pub is_line : List ℕ → Bool
is_line line = is_ascii line && (is_skipped line || is_some (command_in (words_of line)))

-- the lines form a script: each is a line of a script, and each command may follow those before it
pub record AreLines (lines : List (List ℕ)) : Type 0 where
  pub each : list_all is_line lines ≡ true
  pub admitted : AreAdmitted [] (commands_of lines)

-- the text is a script
abbrev pub IsScript : List ℕ → Type 0
IsScript text = AreLines (lines_of text)

-- the line with this number, from 1 on, is the first bad one: the lines before it form a script, and together with it they don't
pub record IsBadLine (text : List ℕ) (line : ℕ) : Type 0 where
  pub from_one : 1 ≤ line
  pub within : line ≤ length (lines_of text)
  pub good : AreLines (take (line - 1) (lines_of text))
  pub bad : ¬ (AreLines (take line (lines_of text)))

-- the first word is `set`
abbrev pub is_set : List (List ℕ) → Bool
is_set [] = false
is_set (verb ∷ words) = same verb (codes "set")

-- one of the text's lines has `set` as its first word
abbrev pub HasSetLine : List ℕ → Type 0
HasSetLine text = list_any (λ line. is_set (words_of line)) (lines_of text) ≡ true

-- no line of the text is bad
abbrev pub HasNoBadLine : List ℕ → Type 0
HasNoBadLine text = (line : ℕ) → ¬ (IsBadLine text line)

-- the commands of a script, in their order
abbrev pub commands_in : List ℕ → List Command
commands_in text = commands_of (lines_of text)

-- why a text isn't read as a script: out of memory, or its first bad line
abbrev pub IsScriptFault : List ℕ → Fault → Type 0
IsScriptFault text NoMemory = Unit {0}
IsScriptFault text (BadScript line) = IsBadLine text line
IsScriptFault text fault = ⊥
