-- The names that nodes are given (this project's profile).
use Rattle.std.specs.Prelude.{ℕ, List}
use Rattle.scp_slot.specs.scp_types.specs.declared.names.NodeId.{NodeId}

-- The id of a node, and a name that it has.
pub record Naming : Type 0 where
  pub id : NodeId
  pub name : List ℕ
