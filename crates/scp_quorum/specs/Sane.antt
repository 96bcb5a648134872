-- Which quorum sets are sane (this project's profile).
use Rattle.std.specs.Prelude.{ℕ, ◌+◌, ◌≤◌, List, [], ◌++◌, length, max}
use Rattle.std.specs.List.{IsDistinct}
use Rattle.std.specs.Ordering.{eq_by_cmp}
use Rattle.scp_xdr.specs.scp_types.specs.declared.names.NodeId.{NodeId}
use Rattle.scp_xdr.specs.Tree.{Trees, no_trees, tree_then, row_len}
use Rattle.scp_xdr.specs.Kind.{Fits}
use Rattle.scp_quorum.specs.NodeSet.{node_cmp}
use Rattle.scp_quorum.specs.QuorumTree.{Level, QuorumTree}
use Rattle.scp_quorum.specs.QuorumKind.{set_kind, set_value, set_spelling}

-- the nodes of a row, with those of inner sets
abbrev pub row_nodes : Trees Level → List NodeId
row_nodes no_trees = []
row_nodes (tree_then level inner others) = (level.validators ++ row_nodes inner) ++ row_nodes others

-- all nodes of a quorum set, with those of inner sets
abbrev pub all_nodes : QuorumTree → List NodeId
all_nodes q = q.head.validators ++ row_nodes q.inner

-- each threshold of a row, with those of inner sets, is from 1 to the number of entries
abbrev pub AreInRange : Trees Level → Type 0
AreInRange no_trees = Unit {0}
AreInRange (tree_then level inner others) =
    ((1 ≤ level.threshold) × (level.threshold ≤ length level.validators + row_len inner) × AreInRange inner) × AreInRange others

-- the same of one quorum set
abbrev pub IsInRange : QuorumTree → Type 0
IsInRange q = (1 ≤ q.head.threshold) × (q.head.threshold ≤ length q.head.validators + row_len q.inner) × AreInRange q.inner

-- how many levels a row has
abbrev pub levels : Trees Level → ℕ
levels no_trees = 0
levels (tree_then level inner others) = max (1 + levels inner) (levels others)

-- At every level the threshold is from 1 to the number of entries. No node occurs twice, and there
-- are at most 1,000 nodes in all and at most 4 levels of inner sets. The set keeps the limits of its
-- kind. Its encoding has at most 65,532 bytes, so that a message of 65,536 can hold it after its
-- discriminant.
pub record IsSane (q : QuorumTree) : Type 0 where
  pub in_range : IsInRange q
  pub distinct : IsDistinct (eq_by_cmp node_cmp) (all_nodes q)
  pub few_nodes : length (all_nodes q) ≤ 1000
  pub shallow : levels q.inner ≤ 4
  pub fits : Fits set_kind (set_value q)
  pub short : length (set_spelling q) ≤ 65532
