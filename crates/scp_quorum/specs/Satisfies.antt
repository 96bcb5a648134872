-- When a set of nodes satisfies or blocks a quorum set (the SCP draft). A set of nodes is a test of nodes.
use Rattle.std.specs.Prelude.{◌≡◌, ℕ, ◌+◌, ◌≤◌, Bool, true, false, nat_le, count_by, if◌then◌else◌}
use Rattle.scp_xdr.specs.scp_types.specs.declared.names.NodeId.{NodeId}
use Rattle.scp_xdr.specs.Tree.{Trees, no_trees, tree_then}
use Rattle.scp_quorum.specs.QuorumTree.{Level, QuorumTree}

-- how many quorum sets of a row the nodes satisfy
abbrev pub satisfied_count : (NodeId → Bool) → Trees Level → ℕ
satisfied_count nodes no_trees = 0
satisfied_count nodes (tree_then level inner others) =
    if nat_le level.threshold (count_by nodes level.validators + satisfied_count nodes inner)
    then 1 + satisfied_count nodes others
    else satisfied_count nodes others

-- At least as many entries are satisfied as the threshold says. A validator is satisfied if it is
-- among the nodes, an inner set if the nodes satisfy it.
abbrev pub Satisfies : (NodeId → Bool) → QuorumTree → Type 0
Satisfies nodes q = q.head.threshold ≤ count_by nodes q.head.validators + satisfied_count nodes q.inner

-- no node is in both
abbrev pub AreDisjoint : (NodeId → Bool) → (NodeId → Bool) → Type 0
AreDisjoint us vs = (v : NodeId) → us v ≡ true → vs v ≡ false

-- No set of nodes disjoint from these satisfies the quorum set.
abbrev pub Blocks : (NodeId → Bool) → QuorumTree → Type 0
Blocks nodes q = (others : NodeId → Bool) → AreDisjoint others nodes → Satisfies others q → ⊥
