-- One hash or another, one connection or another.
pub use Rattle.scp_quorum.specs.scp_types.specs.Same.{same_hash, same_node, same_conn}
