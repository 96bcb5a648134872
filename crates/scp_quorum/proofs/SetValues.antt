-- A quorum set and its value say the same.
use Rattle.std.proofs.Common.{◌≡◌, refl}
use Rattle.scp_xdr.specs.Kind.{Values}
use Rattle.scp_xdr.specs.Shared.{node_value, node_of}
use Rattle.scp_xdr.proofs.Again.{each_again, tree_again, node_value_again}
use Rattle.scp_quorum.specs.QuorumTree.{Level}
use Rattle.scp_quorum.specs.QuorumKind.{level_kind, level_value, level_of, SetIsItsValue, ValueIsASets}

level_again : (l : Level) → level_of (level_value l) ≡ l
level_again l = rw (each_again node_value node_of (λ n. refl) l.validators) refl

level_value_again : (v : Values level_kind) → level_value (level_of v) ≡ v
level_value_again v = rw (each_again node_of node_value node_value_again v.1) refl

pub set_again : SetIsItsValue
set_again q = tree_again level_value level_of level_again q

pub set_value_again : ValueIsASets
set_value_again v = tree_again level_of level_value level_value_again v
