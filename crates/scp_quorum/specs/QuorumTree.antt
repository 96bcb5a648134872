-- What a quorum set is, apart from memory: a tree of thresholds and validators.
use Rattle.std.specs.Prelude.{ℕ, List}
use Rattle.scp_xdr.specs.scp_types.specs.declared.names.NodeId.{NodeId}
use Rattle.scp_xdr.specs.Tree.{Tree}

-- what one quorum set has besides its inner sets
pub record Level : Type 0 where
  pub threshold : ℕ
  pub validators : List NodeId

-- a quorum set: its level, and its inner sets in a row
abbrev pub QuorumTree : Type 0
QuorumTree = Tree Level
