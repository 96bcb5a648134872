-- What a fault reports.
use Rattle.std.specs.Prelude.{◌≡◌, ℕ, ◌<◌, map, Bool, true, false, not, ◌&&◌, nat_eq, List, [], ◌∷◌, Option, Some, None, string_bytes}
use Rattle.std.specs.List.{slice_get, list_any}
use Rattle.std.specs.Cmp.Lexicographic.{pointwise}
use Rattle.toml.specs.Data.{Data, Members, get_member}
use Rattle.scp_live_config.specs.Config.{capacity_said}
use Rattle.toml.specs.declared.de.error.Error.{Error}
use Rattle.toml.specs.Errors.{IsMemory, span_start}
use Rattle.scp_live_config.specs.Names.{Identity, is_name, id_said, named, name_said, node_said}
use Rattle.scp_live_config.specs.Wrong.{IsWrongInside, IsStray, IsNoName, HasNoId, HaveOneId, queue_key, line_at}
use Rattle.scp_live_config.specs.declared.wrong.Section.TheVariants as section
use Rattle.scp_live_config.specs.declared.wrong.Wrong.{Wrong}
use Rattle.scp_live_config.specs.declared.wrong.Wrong.TheVariants as wrong
use Rattle.scp_live_config.specs.declared.fault.ConfigFault.{ConfigFault}
use Rattle.scp_live_config.specs.declared.fault.ConfigFault.TheVariants as config
use Rattle.scp_quorum.specs.scp_types.specs.declared.names.NodeId.{NodeId}
use Rattle.scp_live_config.specs.declared.sets.NodesFault.{NodesFault}
use Rattle.scp_live_config.specs.declared.sets.NodesFault.TheVariants as nodes
use Rattle.scp_live_config.specs.declared.sets.SetFault.{SetFault}
use Rattle.scp_live_config.specs.declared.sets.SetFault.TheVariants as set

-- It reports something for which this holds, or that memory ran out.
abbrev pub Tells : (Wrong → Type 0) → ConfigFault → Type 0
Tells Holds config.NoMemory = Unit {0}
Tells Holds (config.Text line words) = ⊥
Tells Holds (config.Wrong w) = Holds w

-- This is wrong with a table of names.
abbrev pub IsWrongAmong : Members → Wrong → Type 0
IsWrongAmong nodes (wrong.Name name) = IsNoName nodes (string_bytes name)
IsWrongAmong nodes (wrong.Id name) = HasNoId nodes (string_bytes name)
IsWrongAmong nodes (wrong.SameId name other) = HaveOneId nodes (string_bytes name) (string_bytes other)
IsWrongAmong nodes other = ⊥

-- This is wrong with one key of NODES and its value.
abbrev pub IsWrongPair : List ℕ → Data → Wrong → Type 0
IsWrongPair key said (wrong.Name name) = (string_bytes name ≡ key) × (is_name key ≡ false)
IsWrongPair key said (wrong.Id name) = (string_bytes name ≡ key) × (id_said said ≡ None)
IsWrongPair key said other = ⊥

-- It reports that this name has the same id as the other one.
abbrev pub IsSameId : List ℕ → List ℕ → Wrong → Type 0
IsSameId name other (wrong.SameId one two) = (string_bytes one ≡ name) × (string_bytes two ≡ other)
IsSameId name other w = ⊥

-- It reports something wrong in the table of a set, or that memory ran out.
abbrev pub TellsSet : List Identity → ℕ → Members → SetFault → Type 0
TellsSet names left ms set.NoMemory = Unit {0}
TellsSet names left ms (set.In inner w) = IsWrongInside names left inner.items ms w

-- The second fault reports for the inner set at this index what the first one reports for the table itself, or that memory ran out.
abbrev pub TellsInside : ℕ → SetFault → SetFault → Type 0
TellsInside place fault set.NoMemory = Unit {0}
TellsInside place set.NoMemory (set.In inner w) = ⊥
TellsInside place (set.In there v) (set.In inner w) = (inner.items ≡ place ∷ there.items) × (v ≡ w)

-- This is wrong with the value at an index of PEERS, after these peers.
abbrev pub IsWrongPeer : Identity → List Identity → ℕ → Option Identity → Wrong → Type 0
IsWrongPeer node before place said (wrong.Peer i) = (i ≡ place) × (said ≡ None)
IsWrongPeer node before place said (wrong.PeerIsNode i) = (i ≡ place) × ((peer : Identity) × (said ≡ Some peer) × (peer.name ≡ node.name))
IsWrongPeer node before place said (wrong.PeerTwice i) = (i ≡ place) × ((one peer : Identity) × (said ≡ Some peer) × (named before peer.name ≡ Some one))
IsWrongPeer node before place said other = ⊥

-- The value at this index names this node, or no node if it is `None`.
abbrev pub SaysAt : List Identity → List Data → ℕ → Option Identity → Type 0
SaysAt names values i said = slice_get (map (name_said names) values) i ≡ Some said

-- This is wrong with the values of PEERS.
abbrev pub IsWrongAmongPeers : List Identity → Identity → List Data → Wrong → Type 0
IsWrongAmongPeers names node values (wrong.Peer i) = SaysAt names values i None
IsWrongAmongPeers names node values (wrong.PeerIsNode i) = (peer : Identity) × SaysAt names values i (Some peer) × (peer.name ≡ node.name)
IsWrongAmongPeers names node values (wrong.PeerTwice i) =
    (j : ℕ) × (one other : Identity) × (j < i) × SaysAt names values j (Some one) × SaysAt names values i (Some other) × (one.name ≡ other.name)
IsWrongAmongPeers names node values other = ⊥

-- This is wrong with the table CAPACITIES.
abbrev pub IsWrongQueue : Members → Wrong → Type 0
IsWrongQueue queues (wrong.StrayCapacity key) = IsStray section.Queues queues (string_bytes key)
IsWrongQueue queues (wrong.Capacity queue) = capacity_said (get_member (queue_key queue) queues) ≡ None
IsWrongQueue queues other = ⊥

-- It reports the line where the error of the text begins, or that memory ran out. It reports a line only if the error isn't one of
-- memory.
abbrev pub IsTextFault : List ℕ → Error → ConfigFault → Type 0
IsTextFault text error config.NoMemory = Unit {0}
IsTextFault text error (config.Text line words) = (IsMemory error → ⊥) × (line ≡ line_at text (span_start error))
IsTextFault text error (config.Wrong w) = ⊥

-- It reports an index at which the value names no node, or that memory ran out.
abbrev pub TellsPlace : List Identity → List Data → NodesFault → Type 0
TellsPlace names values nodes.NoMemory = Unit {0}
TellsPlace names values (nodes.At i) = slice_get (map (node_said names) values) i ≡ Some None

-- The node is among these.
abbrev pub is_among : NodeId → List NodeId → Bool
is_among node others = list_any (λ other. pointwise nat_eq node.0 other.0) others

-- No node is in the list twice.
abbrev pub are_distinct : List NodeId → Bool
are_distinct [] = true
are_distinct (node ∷ others) = not (is_among node others) && are_distinct others
