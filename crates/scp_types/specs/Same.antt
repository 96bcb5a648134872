-- Which names are the same.
use Rattle.std.specs.Prelude.{Bool, nat_eq, ◌&&◌}
use Rattle.std.specs.Cmp.Lexicographic.{pointwise}
use Rattle.scp_types.specs.declared.names.ConnId.{ConnId}
use Rattle.scp_types.specs.declared.names.Hash.{Hash}
use Rattle.scp_types.specs.declared.names.NodeId.{NodeId}

-- two hashes are the same if their bytes are
abbrev pub same_hash : Hash → Hash → Bool
same_hash a b = pointwise nat_eq a.0 b.0

-- two nodes are the same if their bytes are
abbrev pub same_node : NodeId → NodeId → Bool
same_node a b = pointwise nat_eq a.0 b.0

-- two connections are the same if their sender, their receiver and their life are
abbrev pub same_conn : ConnId → ConnId → Bool
same_conn c d = same_node c.from d.from && same_node c.to d.to && nat_eq c.life d.life
