-- What is reported of a script's nodes after its lines are done.
use Rattle.std.specs.Prelude.{◌≡◌, ℕ, ◌+◌, ◌-◌, ◌≤◌, Bool, false, List, [], ◌∷◌, length, Option, None, Some, is_some, slice_get}
use Rattle.std.specs.List.{AllByRecursion}
use Rattle.std.specs.Option.{option_or}
use Rattle.scp_threaded_node.specs.scp_types.specs.declared.limits.TheConstants.{NODE_LIMIT}
use Rattle.scp_threaded_node.specs.scp_types.specs.declared.fault.Fault.{Fault}
use Rattle.scp_threaded_node.specs.scp_types.specs.declared.fault.Fault.TheVariants.{NoMemory, Full, NotOpen, Refused}
use Rattle.scp_threaded_node.specs.scp_types.specs.declared.fault.Stage.TheVariants.{Reader, Pend}
pub use Rattle.scp_threaded_node.specs.scp_shared_outbox.specs.Places.{IsOneOf, AreTwoOf}
use Rattle.scp_threaded_node.specs.scp_gather.specs.Kv.{NodeReport, Left}
use Rattle.scp_script.specs.declared.command.Command.{Command}
use Rattle.scp_script.specs.Nodes.{id_of, peers_of, set_at, capacities_in}
use Rattle.scp_script.specs.Script.{node_count, lives, is_open}
use Rattle.scp_threaded_node.specs.declared.ending.Stood.{Stood}
use Rattle.scp_threaded_node.specs.Kv.{Node, NodeEnd, IsEnded}
use Rattle.scp_threaded_node.specs.Seats.{Each, Runs}
use Rattle.scp_threaded_node.specs.Faults.{IsNodeEnd, fault_of}
use Rattle.scp_threaded_script.specs.declared.running.NodeFault.{NodeFault}
use Rattle.scp_threaded_script.specs.Lines.{peer_at, is_driven, driven_to, items_to, commands_for}
use Rattle.scp_threaded_script.specs.Travels.{PutBy, Travels}

-- how the lines leave the link from one node to another: how often it was opened, and whether it is open
abbrev pub stood_on : List Command → ℕ → ℕ → Stood
stood_on commands from to = record { lives = lives from to commands; is_open = is_open from to commands }

-- how the lines leave the links to a node, in the order of its peers
abbrev pub AreStood : List Command → ℕ → List Stood → Type 0
AreStood commands to stood = (length stood + 1 ≡ node_count commands) × Each (λ i st. st ≡ stood_on commands (peer_at i to) to) stood

-- The report of the node of this number, from what its threads left, holds the node's ledger, of what was sent to it.
-- Its own commands are those of the lines, in their order. Each link that the script drives carried what the lines put on it, whole and in
-- order. A courier opened and closed each other link as often as the lines say.
pub record IsNodeReported (commands : List Command) (number : ℕ) (left : Left) (r : NodeReport) : Type 0 where
  pub stood : List Stood
  pub stood_are : AreStood commands number stood
  pub ended : IsEnded (id_of number) (set_at number commands) (peers_of (node_count commands) number) (capacities_in commands) (commands_for number commands) (driven_to commands number) (items_to number commands) stood left r

-- the same for each of these nodes, from node 1 on, with what its threads left
abbrev pub AreSoReported : List Command → List Left → List NodeReport → Type 0
AreSoReported commands lefts all = Each (λ i r. (left : Left) × (slice_get lefts i ≡ Some left) × IsNodeReported commands (i + 1) left r) all

-- There is one report for each node of the script, from node 1 on, of the node that the script defines. And for each link that the script
-- doesn't drive, it is known what travelled over it: of what the sender's stages put into outboxes, in the run of its report (`fates_are`).
pub record AreNodesReported (commands : List Command) (all : List NodeReport) : Type 0 where
  pub count : length all ≡ node_count commands
  pub lefts : List Left
  pub lefts_count : length lefts ≡ node_count commands
  pub reported : AreSoReported commands lefts all
  pub travels : (from to : ℕ) → AreTwoOf (node_count commands) from to → is_driven commands from to ≡ false
      → (sender receiver : Left) → slice_get lefts (from - 1) ≡ Some sender → slice_get lefts (to - 1) ≡ Some receiver → (put : PutBy commands from sender) → Travels commands from to sender receiver put

-- each report has what came over each of its node's links if `keeps` is set, and else over none
abbrev pub AreAllKept : Bool → List NodeReport → Type 0
AreAllKept keeps all = Each (λ i r. AllByRecursion (λ row. is_some row ≡ keeps) r.came.items) all

-- ---- why nothing is reported

-- These are running nodes of a script, from node 1 on. The peers of each are all others of the script.
abbrev pub AllRunSoFar : List Command → List Node → Type 0
AllRunSoFar commands nodes = Each (λ i node. Runs (id_of (i + 1)) (set_at (i + 1) commands) (peers_of (node_count commands) (i + 1)) (capacities_in commands) node) nodes

-- The threads of each node ended with this, as they promised, and its links should be left as the lines leave them.
pub record AreNodeEnds (commands : List Command) (nodes : List Node) (ends : List NodeEnd) : Type 0 where
  pub count : length ends ≡ length nodes
  pub each : (i : ℕ) → (node : Node) → slice_get nodes i ≡ Some node → (e : NodeEnd) → slice_get ends i ≡ Some e → (stood : List Stood) × AreStood commands (i + 1) stood × IsNodeEnd node stood e

-- the fault of the node of this number, if it is the fault of a stage
abbrev pub refused_at : ℕ → Option Fault → Option NodeFault
refused_at n (Some (Refused stage)) = Some (record { fault = Refused stage; node = n })
refused_at n fault = None

-- the fault of the first node, from this number on, that has a stage's fault
abbrev pub first_refused : ℕ → List NodeEnd → Option NodeFault
first_refused n [] = None
first_refused n (e ∷ ends) = option_or (refused_at n (fault_of e)) (first_refused (n + 1) ends)

-- Why a line wasn't done, or a node wasn't reported, if no stage's fault is reported at the end. At a line, a node's reader or pending stage
-- was gone. Or a mark found no room in an outbox, a link wasn't left as the lines say, it is out of memory, or a courier failed.
abbrev pub IsLineFault : ℕ → ℕ → Fault → Type 0
IsLineFault count node (Refused Reader) = IsOneOf count node
IsLineFault count node (Refused Pend) = IsOneOf count node
IsLineFault count node Full = node ≡ 0
IsLineFault count node NotOpen = node ≡ 0
IsLineFault count node NoMemory = node ≡ 0
IsLineFault count node fault = ⊥

-- The first stage's fault is reported; if there is none, that of a line.
abbrev pub IsToldOf : ℕ → Option NodeFault → NodeFault → Type 0
IsToldOf count None e = IsLineFault count e.node e.fault
IsToldOf count (Some first) e = e ≡ first

-- Why nothing is reported of the nodes of a script. The nodes that were started have ended. The fault is the first failed stage of the first
-- node that has one, with that node's number. If there is none, it is why a line wasn't done, or why a node wasn't reported.
pub record IsGivenUp (commands : List Command) (e : NodeFault) : Type 0 where
  pub nodes : List Node
  pub run : AllRunSoFar commands nodes
  pub few : length nodes ≤ node_count commands
  pub most : node_count commands ≤ NODE_LIMIT
  pub ends : List NodeEnd
  pub ended : AreNodeEnds commands nodes ends
  pub told : IsToldOf (node_count commands) (first_refused 1 ends) e
