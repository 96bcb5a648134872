-- Who leads (this project's profile).
use Rattle.std.specs.Prelude.{◌≡◌, ◌≤◌, ◌↔◌, ◌⊎◌, ℕ, List, length, slice_get, Some, Contains}
use Rattle.std.specs.List.Sorted.{IsStrictlySortedBy}
use Rattle.scp_vote.specs.scp_types.specs.declared.names.NodeId.{NodeId}
use Rattle.scp_vote.specs.scp_quorum.specs.NodeSet.{node_cmp}
use Rattle.scp_vote.specs.scp_quorum.specs.QuorumTree.{QuorumTree}
use Rattle.scp_vote.specs.scp_quorum.specs.Sane.{all_nodes}

-- the node leads one of the rounds so far: it is at the place of that round's leader
abbrev pub Leads : (ℕ → ℕ → ℕ) → List NodeId → ℕ → NodeId → Type 0
Leads place nodes rounds node = (r : ℕ) × (1 ≤ r) × (r ≤ rounds) × (slice_get nodes (place r (length nodes)) ≡ Some node)

-- This node and the nodes of its set, ascending, each once.
pub record AreInTurn (me : NodeId) (set : QuorumTree) (nodes : List NodeId) : Type 0 where
  pub ascending : IsStrictlySortedBy node_cmp nodes
  pub all : (v : NodeId) → Contains nodes v ↔ ((v ≡ me) ⊎ Contains (all_nodes set) v)
