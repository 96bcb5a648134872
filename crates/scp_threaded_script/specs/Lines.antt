-- What the lines of a script put on the links that the script drives, and which commands they send to the nodes.
use Rattle.std.specs.Prelude.{ℕ, ◌+◌, Bool, false, List, [], ◌∷◌, ◌++◌, Option, None, Some, flat_map, if◌then◌else◌, nat_eq}
use Rattle.std.specs.List.{list_any}
use Rattle.scp_threaded_node.specs.scp_wire.specs.declared.link.Command.{Command as LocalCommand}
use Rattle.scp_threaded_node.specs.scp_wire.specs.declared.link.Command.TheVariants as local
use Rattle.scp_threaded_node.specs.scp_wire.specs.declared.link.Inbound.{Inbound}
use Rattle.scp_threaded_node.specs.scp_wire.specs.declared.link.Inbound.TheVariants.{Local}
use Rattle.scp_threaded_node.specs.scp_wire.specs.declared.link.LinkItem.{LinkItem}
use Rattle.scp_threaded_node.specs.scp_wire.specs.declared.link.LinkItem.TheVariants as item
use Rattle.scp_threaded_node.specs.scp_wire.specs.Connections.{conn_at}
pub use Rattle.scp_threaded_node.specs.scp_shared_outbox.specs.Places.{link_of, peer_at}
use Rattle.scp_script.specs.declared.command.Command.{Command}
use Rattle.scp_script.specs.declared.command.Command.TheVariants.{Caps, Nodes, Set, Open, Close, Send, Propose, Round, Timer, Tick, Ask, Settle, Wait, Report}
use Rattle.scp_script.specs.Nodes.{id_of}
use Rattle.scp_script.specs.Script.{is_link, lives}

-- ---- links

-- the line is a `send` line for this link
abbrev pub sends : ℕ → ℕ → Command → Bool
sends from to (Caps capacities) = false
sends from to (Nodes count quorum) = false
sends from to (Set node set) = false
sends from to (Open from2 to2) = false
sends from to (Close from2 to2) = false
sends from to (Send from2 to2 bytes) = is_link from to from2 to2
sends from to (Propose node slot value) = false
sends from to (Round node slot) = false
sends from to (Timer node slot) = false
sends from to (Tick node) = false
sends from to (Ask from2 to2 slot) = false
sends from to Settle = false
sends from to (Wait node things) = false
sends from to (Report node) = false

-- The script drives the link, so it alone sends on it: a `send` line names the link.
abbrev pub is_driven : List Command → ℕ → ℕ → Bool
is_driven commands from to = list_any (sends from to) commands

-- What a line after these puts on the link: the start of its next life, bytes on its last life, or the end of that life.
abbrev pub item_by : ℕ → ℕ → List Command → Command → List LinkItem
item_by from to before (Caps capacities) = []
item_by from to before (Nodes count quorum) = []
item_by from to before (Set node set) = []
item_by from to before (Open from2 to2) = if is_link from to from2 to2 then item.Opened (conn_at (id_of from) (id_of to) (lives from to before + 1)) ∷ [] else []
item_by from to before (Close from2 to2) = if is_link from to from2 to2 then item.Closed (conn_at (id_of from) (id_of to) (lives from to before)) ∷ [] else []
item_by from to before (Send from2 to2 bytes) = if is_link from to from2 to2 then item.Bytes (conn_at (id_of from) (id_of to) (lives from to before)) bytes ∷ [] else []
item_by from to before (Propose node slot value) = []
item_by from to before (Round node slot) = []
item_by from to before (Timer node slot) = []
item_by from to before (Tick node) = []
item_by from to before (Ask from2 to2 slot) = []
item_by from to before Settle = []
item_by from to before (Wait node things) = []
item_by from to before (Report node) = []

-- what lines put on the link, after the lines before them
abbrev pub items_behind : ℕ → ℕ → List Command → List Command → List LinkItem
items_behind from to before [] = []
items_behind from to before (command ∷ commands) = item_by from to before command ++ items_behind from to (before ++ command ∷ []) commands

-- what the lines put on the link from one node to another, in their order
abbrev pub items_on : ℕ → ℕ → List Command → List LinkItem
items_on from to commands = items_behind from to [] commands

-- ---- commands

-- the command that a line gives to a node, with the node's number; none for the other lines
abbrev pub local_by : Command → Option (ℕ × LocalCommand)
local_by (Caps capacities) = None
local_by (Nodes count quorum) = None
local_by (Set at set) = None
local_by (Open from to) = None
local_by (Close from to) = None
local_by (Send from to bytes) = None
local_by (Propose at slot value) = Some (at, local.Propose (record { 0 = slot }) value)
local_by (Round at slot) = Some (at, local.Round (record { 0 = slot }))
local_by (Timer at slot) = Some (at, local.Timer (record { 0 = slot }))
local_by (Tick at) = Some (at, local.Tick)
local_by (Ask from to slot) = Some (from, local.Ask (link_of to from) (record { 0 = slot }))
local_by Settle = None
local_by (Wait at things) = None
local_by (Report at) = None

-- a command goes to its own node only
abbrev pub told_to : ℕ → Option (ℕ × LocalCommand) → List Inbound
told_to node None = []
told_to node (Some given) = if nat_eq given.0 node then Local given.1 ∷ [] else []

-- the command of a line, if it is one to this node
abbrev pub command_by : ℕ → Command → List Inbound
command_by node command = told_to node (local_by command)

-- the commands of the lines to a node, in their order
abbrev pub commands_for : ℕ → List Command → List Inbound
commands_for node commands = flat_map (command_by node) commands

-- ---- all links of a node

-- the script drives the link to this node from the peer at this place
abbrev pub driven_to : List Command → ℕ → ℕ → Bool
driven_to commands to place = is_driven commands (peer_at place to) to

-- what the lines put on that link, in their order
abbrev pub items_to : ℕ → List Command → ℕ → List LinkItem
items_to to commands place = items_on (peer_at place to) to commands
