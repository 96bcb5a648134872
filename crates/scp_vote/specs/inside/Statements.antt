-- What is seen of a table of statements, and which nodes are picked from it.
-- No public clause reaches these definitions: nothing here need be believed.
use Rattle.std.specs.Prelude.{◌≡◌, Bool, true, cond, ◌↔◌, IsTrue, Option, Some, IsSome}
use Rattle.std.specs.BTreeMap as node_map
use Rattle.std.specs.BTreeMap.{BTreeMap, is_at}
use Rattle.scp_quorum.specs.scp_types.specs.declared.names.NodeId.{NodeId}
use Rattle.scp_quorum.specs.NodeSet.{node_cmp}
use Rattle.scp_quorum.specs.QuorumTree.{QuorumTree}
use Rattle.scp_vote.specs.declared.statements.Entry.{Entry}
use Rattle.scp_vote.specs.Board.{Seen}

-- the entry is now that of its node, and all else is as before
abbrev pub Enters : BTreeMap NodeId Entry → BTreeMap NodeId Entry → Entry → Type 0
Enters old new e = (v : NodeId) → node_map.get node_cmp new v ≡ cond (is_at (node_cmp e.envelope.statement.node) v) (Some e) (node_map.get node_cmp old v)

-- exactly the nodes with H are picked
abbrev pub PicksNodes : (NodeId → Type 0) → (NodeId → Bool) → Type 0
PicksNodes H nodes = (v : NodeId) → IsTrue (nodes v) ↔ H v

-- The sets are the ones that count for those given nodes that have a statement.
pub record PicksSets (b : Seen) (nodes : NodeId → Bool) (sets : NodeId → Option QuorumTree) : Type 0 where
  pub sound : (v : NodeId) → IsSome (sets v) → nodes v ≡ true
  pub same : (v : NodeId) → IsSome (sets v) → sets v ≡ b.counted v
  pub complete : (v : NodeId) → nodes v ≡ true → sets v ≡ b.counted v
