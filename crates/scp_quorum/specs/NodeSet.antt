-- A set of nodes as a test of nodes.
use Rattle.std.specs.Prelude.{Bool}
use Rattle.std.specs.Ordering.{nat_cmp}
use Rattle.std.specs.declared.cmp.Ordering.{Ordering}
use Rattle.std.specs.Cmp.Lexicographic.{slice_cmp}
use Rattle.std.specs.BTreeSet as node_set
use Rattle.std.specs.BTreeSet.{BTreeSet}
use Rattle.scp_xdr.specs.scp_types.specs.declared.names.NodeId.{NodeId}

-- nodes are ordered by their bytes
abbrev pub node_cmp : NodeId → NodeId → Ordering
node_cmp v w = slice_cmp nat_cmp v.0 w.0

-- the node is in the set
abbrev pub is_in : BTreeSet NodeId → NodeId → Bool
is_in nodes v = node_set.contains node_cmp nodes v
