-- The nodes of a script: their ids, peers, quorum sets and capacities.
use Rattle.std.specs.Prelude.{ℕ, ◌≤◌, ◌≢◌, suc, zero, not, List, [], ◌∷◌, ◌++◌, map, filter, flat_map, replicate, None, if◌then◌else◌, nat_eq}
use Rattle.std.specs.Option.{unwrap_or}
use Rattle.std.specs.List.{last_or}
use Rattle.scp_wire.specs.scp_types.specs.declared.limits.TheConstants.{NODE_LIMIT}
use Rattle.scp_wire.specs.scp_types.specs.declared.names.NodeId.{NodeId}
use Rattle.scp_wire.specs.scp_xdr.specs.Tree.{no_trees}
use Rattle.scp_wire.specs.scp_quorum.specs.QuorumTree.{QuorumTree}
use Rattle.scp_script.specs.declared.command.Command.{Command}
use Rattle.scp_script.specs.declared.command.Command.TheVariants.{Caps, Nodes, Set, Open, Close, Send, Propose, Round, Timer, Tick, Ask, Settle, Wait, Report}
use Rattle.scp_wire.specs.scp_types.specs.declared.capacities.Capacities.{Capacities}

-- a number from 1 to 8
abbrev pub IsSmall : ℕ → Type 0
IsSmall number = (1 ≤ number) × (number ≤ NODE_LIMIT)

-- each number that names or counts nodes is from 1 to 8
abbrev pub NamesNodes : Command → Type 0
NamesNodes (Caps capacities) = Unit {0}
NamesNodes (Nodes count quorum) = IsSmall count × IsSmall quorum × (quorum ≤ count)
NamesNodes (Set node set) = IsSmall node
NamesNodes (Open from to) = IsSmall from × IsSmall to × (from ≢ to)
NamesNodes (Close from to) = IsSmall from × IsSmall to × (from ≢ to)
NamesNodes (Send from to bytes) = IsSmall from × IsSmall to × (from ≢ to)
NamesNodes (Propose node slot value) = IsSmall node
NamesNodes (Round node slot) = IsSmall node
NamesNodes (Timer node slot) = IsSmall node
NamesNodes (Tick node) = IsSmall node
NamesNodes (Ask from to slot) = IsSmall from × IsSmall to × (from ≢ to)
NamesNodes Settle = Unit {0}
NamesNodes (Wait node things) = IsSmall node
NamesNodes (Report node) = IsSmall node

-- 1, 2, .. up to this count
abbrev pub numbers : ℕ → List ℕ
numbers zero = []
numbers (suc n) = numbers n ++ suc n ∷ []

-- the id of a node: 32 bytes, each of which is its number
abbrev pub id_of : ℕ → NodeId
id_of number = record { 0 = replicate 32 number }

-- the peers of a node among this many nodes: the ids of the others, ascending
abbrev pub peers_of : ℕ → ℕ → List NodeId
peers_of count node = map id_of (filter (λ other. not (nat_eq other node)) (numbers count))

-- the quorum set with this threshold over all of this many nodes, ascending
abbrev pub of_all : ℕ → ℕ → QuorumTree
of_all count quorum = record { head = record { threshold = quorum; validators = map id_of (numbers count) }; inner = no_trees }

-- the quorum set that a command gives a node, if it gives it one
abbrev pub set_given : ℕ → Command → List QuorumTree
set_given node (Caps capacities) = []
set_given node (Nodes count quorum) = of_all count quorum ∷ []
set_given node (Set at set) = if nat_eq at node then set ∷ [] else []
set_given node (Open from to) = []
set_given node (Close from to) = []
set_given node (Send from to bytes) = []
set_given node (Propose at slot value) = []
set_given node (Round at slot) = []
set_given node (Timer at slot) = []
set_given node (Tick at) = []
set_given node (Ask from to slot) = []
set_given node Settle = []
set_given node (Wait at things) = []
set_given node (Report at) = []

-- The quorum set of a node: the last that the commands give it. If no command gives it one, it is 1 of node 1. In a script that happens
-- only where there are no nodes, so nothing reports it.
abbrev pub set_at : ℕ → List Command → QuorumTree
set_at node commands = unwrap_or (last_or None (flat_map (set_given node) commands)) (of_all 1 1)

-- the capacities that a command gives: those of a `caps` line
abbrev pub capacities_given : Command → List Capacities
capacities_given (Caps capacities) = capacities ∷ []
capacities_given (Nodes count quorum) = []
capacities_given (Set node set) = []
capacities_given (Open from to) = []
capacities_given (Close from to) = []
capacities_given (Send from to bytes) = []
capacities_given (Propose node slot value) = []
capacities_given (Round node slot) = []
capacities_given (Timer node slot) = []
capacities_given (Tick node) = []
capacities_given (Ask from to slot) = []
capacities_given Settle = []
capacities_given (Wait node things) = []
capacities_given (Report node) = []

-- the capacities where no line gives any: 64 items in each queue
abbrev pub capacities_of_none : Capacities
capacities_of_none = record { link = 64; inbox = 64; ready = 64; decided = 64 }

-- the capacities of each node's queues: those of the last `caps` line, or 64 each
abbrev pub capacities_in : List Command → Capacities
capacities_in commands = unwrap_or (last_or None (flat_map capacities_given commands)) capacities_of_none

-- the node whose report a command asks for, if it is a `report` line's
abbrev pub report_by : Command → List ℕ
report_by (Caps capacities) = []
report_by (Nodes count quorum) = []
report_by (Set node set) = []
report_by (Open from to) = []
report_by (Close from to) = []
report_by (Send from to bytes) = []
report_by (Propose node slot value) = []
report_by (Round node slot) = []
report_by (Timer node slot) = []
report_by (Tick node) = []
report_by (Ask from to slot) = []
report_by Settle = []
report_by (Wait node things) = []
report_by (Report node) = node ∷ []

-- the nodes whose reports the commands ask for, in the order of the lines
abbrev pub reports_in : List Command → List ℕ
reports_in commands = flat_map report_by commands
