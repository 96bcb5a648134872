-- The connections of a link: its lives.
use Rattle.std.specs.Prelude.{ℕ}
use Rattle.scp_quorum.specs.scp_types.specs.declared.names.ConnId.{ConnId}
use Rattle.scp_quorum.specs.scp_types.specs.declared.names.NodeId.{NodeId}
pub use Rattle.scp_quorum.specs.scp_types.specs.Same.{same_node, same_conn}

-- the life with this number of the link from the peer
abbrev pub conn_at : NodeId → NodeId → ℕ → ConnId
conn_at peer me life = record { from = peer; to = me; life = life }
