-- Which sets of nodes are quorums (the SCP draft). Each node has a quorum set, or none is known.
use Rattle.std.specs.Prelude.{◌≡◌, Bool, true, Option, IsSomeAnd}
use Rattle.std.specs.Option.{option_map}
use Rattle.std.specs.BTreeMap as node_map
use Rattle.std.specs.BTreeMap.{BTreeMap}
use Rattle.std.specs.declared.sync.Arc.{Arc}
use Rattle.std.specs.Global.{Global}
use Rattle.scp_xdr.specs.scp_types.specs.declared.names.NodeId.{NodeId}
use Rattle.scp_quorum.specs.declared.sane_set.SaneSet.{SaneSet}
use Rattle.scp_quorum.specs.NodeSet.{node_cmp}
use Rattle.scp_quorum.specs.QuorumTree.{QuorumTree}
use Rattle.scp_quorum.specs.Satisfies.{Satisfies}

-- the quorum set of a node
abbrev pub set_of : BTreeMap NodeId (Arc SaneSet Global) → NodeId → Option QuorumTree
set_of sets v = option_map (λ shared. shared.value) (node_map.get node_cmp sets v)

-- The nodes satisfy the quorum set of each of them.
abbrev pub SatisfyThemselves : (NodeId → Option QuorumTree) → (NodeId → Bool) → Type 0
SatisfyThemselves sets nodes = (v : NodeId) → nodes v ≡ true → IsSomeAnd (sets v) (Satisfies nodes)

-- A quorum at a node has that node, and satisfies the quorum set of each of its nodes.
pub record IsQuorum (sets : NodeId → Option QuorumTree) (at : NodeId) (nodes : NodeId → Bool) : Type 0 where
  pub has : nodes at ≡ true
  pub satisfied : SatisfyThemselves sets nodes

-- each node of us is one of ws
abbrev pub IsWithin : (NodeId → Bool) → (NodeId → Bool) → Type 0
IsWithin us ws = (v : NodeId) → us v ≡ true → ws v ≡ true

-- The quorum at a node that contains every other quorum there.
pub record IsGreatestQuorum (sets : NodeId → Option QuorumTree) (at : NodeId) (nodes : NodeId → Bool) : Type 0 where
  pub quorum : IsQuorum sets at nodes
  pub others : (others : NodeId → Bool) → IsQuorum sets at others → IsWithin others nodes

-- some quorum at the first node has the second
abbrev pub IsInSomeQuorum : (NodeId → Option QuorumTree) → NodeId → NodeId → Type 0
IsInSomeQuorum sets at v = (nodes : NodeId → Bool) × IsQuorum sets at nodes × (nodes v ≡ true)

-- no set of nodes is a quorum at the node
abbrev pub HasNoQuorum : (NodeId → Option QuorumTree) → NodeId → Type 0
HasNoQuorum sets at = (nodes : NodeId → Bool) → IsQuorum sets at nodes → ⊥
