-- Which nodes of a script speak, and what its commands do (this project's profile).
use Rattle.std.specs.Prelude.{ℕ, Bool, true, false, not, ◌&&◌, ◌||◌, List, nat_eq, is_some}
use Rattle.std.specs.List.{list_any}
use Rattle.scp_nominate.specs.scp_kv.specs.Op.{ops_in}
use Rattle.scp_script.specs.declared.command.Command.{Command}
use Rattle.scp_script.specs.declared.command.Command.TheVariants.{Open, Close, Send, Propose, Round, Timer, Tick, Ask, Settle, Wait, Report}
use Rattle.scp_script.specs.Script.{is_link}

-- the command opens a link to the node
abbrev pub opens_to : ℕ → Command → Bool
opens_to node (Open from to) = nat_eq to node
opens_to node command = false

-- by this command the node proposes or asks
abbrev pub starts_it : ℕ → Command → Bool
starts_it node (Propose at slot value) = nat_eq at node
starts_it node (Ask from to slot) = nat_eq from node
starts_it node command = false

-- A node speaks if a link to it is opened, or if it proposes or asks.
abbrev pub speaks_in : ℕ → List Command → Bool
speaks_in node commands = list_any (opens_to node) commands || list_any (starts_it node) commands

-- the command is one of the node itself: a `propose`, `round`, `timer`, `tick` or `ask` line's
abbrev pub is_own : ℕ → Command → Bool
is_own node (Propose at slot value) = nat_eq at node
is_own node (Round at slot) = nat_eq at node
is_own node (Timer at slot) = nat_eq at node
is_own node (Tick at) = nat_eq at node
is_own node (Ask from to slot) = nat_eq from node
is_own node command = false

-- the command sends in the name of this node
abbrev pub sends_for : ℕ → Command → Bool
sends_for node (Send from to bytes) = nat_eq from node
sends_for node command = false

-- The script alone speaks for a node: lines send in its name, no link to it is opened, and it has no command of its own.
abbrev pub is_scripted_in : ℕ → List Command → Bool
is_scripted_in node commands = list_any (sends_for node) commands && (not (list_any (opens_to node) commands) && not (list_any (is_own node) commands))

-- the command sends on this link
abbrev pub sends_on : ℕ → ℕ → Command → Bool
sends_on from to (Send at other bytes) = is_link from to at other
sends_on from to command = false

-- the command asks for a report
abbrev pub reports : Command → Bool
reports (Report node) = true
reports command = false

-- by this command the nodes come to rest
abbrev pub settles_them : Command → Bool
settles_them Settle = true
settles_them (Wait node things) = true
settles_them command = false

-- the command puts something into a queue
abbrev pub acts_on : Command → Bool
acts_on (Open from to) = true
acts_on (Close from to) = true
acts_on (Send from to bytes) = true
acts_on (Propose node slot value) = true
acts_on (Round node slot) = true
acts_on (Timer node slot) = true
acts_on (Tick node) = true
acts_on (Ask from to slot) = true
acts_on command = false

-- the value is an operation list
abbrev pub is_list : List ℕ → Bool
is_list value = is_some (ops_in value)

-- the command proposes an operation list for the slot
abbrev pub proposes_for : ℕ → Command → Bool
proposes_for slot (Propose node at value) = nat_eq at slot && is_list value
proposes_for slot command = false

-- by this command the node proposes an operation list for the slot
abbrev pub proposes_at : ℕ → ℕ → Command → Bool
proposes_at node slot (Propose at of value) = nat_eq at node && (is_list value && nat_eq of slot)
proposes_at node slot command = false

-- the command begins a round of this slot at this node
abbrev pub is_round : ℕ → ℕ → Command → Bool
is_round node slot (Round at of) = nat_eq at node && nat_eq of slot
is_round node slot command = false
