-- What the nodes of a network are linked to.
use Rattle.std.specs.Prelude.{ℕ, ◌≡◌, ◌≤◌, List, Some, length, map, remove, slice_get}
use Rattle.scp_core.specs.scp_types.specs.declared.limits.TheConstants.{NETWORK_LIMIT}
use Rattle.scp_core.specs.scp_types.specs.declared.names.NodeId.{NodeId}
use Rattle.scp_core.specs.Kv.{NodeView}
use Rattle.scp_turn.specs.Heard.{Nodes}

-- the ids of the nodes
abbrev pub ids_of : Nodes → List NodeId
ids_of nodes = map (λ node. node.config.me) nodes

-- the peers of the node at a place are the others, in the order of their numbers
abbrev pub HasOthers : Nodes → ℕ → Type 0
HasOthers nodes place = (node : NodeView) → slice_get nodes place ≡ Some node → node.config.peers ≡ ids_of (remove nodes place)

-- at most 101 nodes, and the peers of each are the others
pub record IsNetwork (nodes : Nodes) : Type 0 where
  pub few : length nodes ≤ NETWORK_LIMIT
  pub linked : (place : ℕ) → HasOthers nodes place
