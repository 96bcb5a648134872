-- What the lines of a script did to running nodes.
use Rattle.std.specs.Prelude.{◌≡◌, ℕ, ◌+◌, ◌-◌, List, [], ◌∷◌, length, Option, None, Some, slice_get, slice_set, if◌then◌else◌, nat_eq}
use Rattle.scp_threaded_node.specs.scp_wire.specs.declared.link.Command.{Command as LocalCommand}
use Rattle.scp_threaded_node.specs.scp_wire.specs.declared.link.Inbound.{Inbound}
use Rattle.scp_threaded_node.specs.scp_wire.specs.declared.link.Inbound.TheVariants as inbound
use Rattle.scp_script.specs.declared.command.Command.{Command}
use Rattle.scp_script.specs.declared.command.Command.TheVariants as script
use Rattle.scp_script.specs.Script.{node_count}
use Rattle.scp_threaded_node.specs.declared.acting.Act.{Act}
use Rattle.scp_threaded_node.specs.Kv.{Node}
use Rattle.scp_threaded_node.specs.Acting.{with_command, ActsAt, IsUnchanged}
use Rattle.scp_threaded_node.specs.Seats.{Each, AreDriven}
use Rattle.scp_threaded_script.specs.Lines.{link_of, driven_to, items_to, command_by, commands_for}
pub use Rattle.scp_threaded_node.specs.scp_shared_outbox.specs.Places.{AreTwoOf}
use Rattle.scp_threaded_script.specs.Reported.{AllRunSoFar, IsOneOf}

-- ---- all nodes

-- all of them
abbrev pub AllRun : List Command → List Node → Type 0
AllRun commands nodes = (length nodes ≡ node_count commands) × AllRunSoFar commands nodes

-- each node was sent its own commands of these lines
abbrev pub AreTold : List Command → List Node → Type 0
AreTold done nodes = Each (λ i node. node.local.sent ≡ commands_for (i + 1) done) nodes

-- each link that the script drives carried what these lines put on it
abbrev pub AreItemsSent : List Command → List Command → List Node → Type 0
AreItemsSent commands done nodes = Each (λ i node. AreDriven (driven_to commands (i + 1)) (items_to (i + 1) done) node.lanes.items) nodes

-- nodes of a script run, from the first on, and these lines were done
pub record HaveDoneSoFar (commands done : List Command) (nodes : List Node) : Type 0 where
  pub run : AllRunSoFar commands nodes
  pub told : AreTold done nodes
  pub sent : AreItemsSent commands done nodes

-- all of them
abbrev pub HaveDone : List Command → List Command → List Node → Type 0
HaveDone commands done nodes = (length nodes ≡ node_count commands) × HaveDoneSoFar commands done nodes

-- ---- what one line does

-- the nodes that the line names exist
abbrev pub IsThere : ℕ → Command → Type 0
IsThere count (script.Caps capacities) = Unit {0}
IsThere count (script.Nodes nodes quorum) = Unit {0}
IsThere count (script.Set node set) = Unit {0}
IsThere count (script.Open from to) = AreTwoOf count from to
IsThere count (script.Close from to) = AreTwoOf count from to
IsThere count (script.Send from to bytes) = AreTwoOf count from to
IsThere count (script.Propose node slot value) = IsOneOf count node
IsThere count (script.Round node slot) = IsOneOf count node
IsThere count (script.Timer node slot) = IsOneOf count node
IsThere count (script.Tick node) = IsOneOf count node
IsThere count (script.Ask from to slot) = IsOneOf count from
IsThere count script.Settle = Unit {0}
IsThere count (script.Wait node things) = Unit {0}
IsThere count (script.Report node) = Unit {0}

-- a node was sent a command
pub record TellsAt (old : List Node) (number : ℕ) (x : Inbound) (new : List Node) : Type 0 where
  pub node : Node
  pub was : slice_get old (number - 1) ≡ Some node
  pub is : new ≡ slice_set old (number - 1) (with_command node x)

-- an act was done on the link from one node to another
pub record ActsOn (old : List Node) (from to : ℕ) (a : Act) (new : List Node) : Type 0 where
  pub node : Node
  pub after : Node
  pub was : slice_get old (to - 1) ≡ Some node
  pub acts : ActsAt a (link_of from to) node after
  pub is : new ≡ slice_set old (to - 1) after

-- nothing was done to any node
pub record AreUnchanged (old new : List Node) : Type 0 where
  pub count : length new ≡ length old
  pub each : Each (λ i y. (x : Node) × (slice_get old i ≡ Some x) × IsUnchanged x y) new

-- the node that a line sends a command to
abbrev pub IsNodeOf : ℕ → Command → Type 0
IsNodeOf node command = (count : ℕ) → IsThere count command → IsOneOf count node

-- the line isn't about a link
abbrev pub IsNoLink : Command → Type 0
IsNoLink (script.Caps capacities) = Unit {0}
IsNoLink (script.Nodes nodes quorum) = Unit {0}
IsNoLink (script.Set node set) = Unit {0}
IsNoLink (script.Open from to) = ⊥
IsNoLink (script.Close from to) = ⊥
IsNoLink (script.Send from to bytes) = ⊥
IsNoLink (script.Propose node slot value) = Unit {0}
IsNoLink (script.Round node slot) = Unit {0}
IsNoLink (script.Timer node slot) = Unit {0}
IsNoLink (script.Tick node) = Unit {0}
IsNoLink (script.Ask from to slot) = Unit {0}
IsNoLink script.Settle = Unit {0}
IsNoLink (script.Wait node things) = Unit {0}
IsNoLink (script.Report node) = Unit {0}

-- each node has a link from each other
abbrev pub HaveLanes : List Node → Type 0
HaveLanes nodes = Each (λ i node. length node.lanes.items + 1 ≡ length nodes) nodes

-- the command for a node that a line is
abbrev pub IsCommandOf : Command → Option (ℕ × LocalCommand) → Type 0
IsCommandOf command None = (node : ℕ) → command_by node command ≡ []
IsCommandOf command (Some given) = IsNodeOf given.0 command × ((node : ℕ) → command_by node command ≡ (if nat_eq given.0 node then inbound.Local given.1 ∷ [] else []))
