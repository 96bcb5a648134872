-- Nodes that share a quorum set, by which the greatest quorum is found.
-- No public clause reaches this: nothing here need be believed.
use Rattle.std.specs.Prelude.{◌≡◌, Bool, true, List, Option, Some}
use Rattle.std.specs.List.{Any, Contains}
use Rattle.scp_xdr.specs.scp_types.specs.declared.names.NodeId.{NodeId}
use Rattle.scp_quorum.specs.declared.quorum.groups.Group.{Group}
use Rattle.scp_quorum.specs.QuorumTree.{QuorumTree}
use Rattle.scp_quorum.specs.Satisfies.{Satisfies}

-- each member of the group has its quorum set
abbrev pub HasOneSet : (NodeId → Option QuorumTree) → Group → Type 0
HasOneSet sets g = (v : NodeId) → Contains g.members.items v → sets v ≡ Some g.set.now

-- the node is in one of the groups
abbrev pub IsGrouped : List Group → NodeId → Type 0
IsGrouped groups v = Any (λ g. Contains g.members.items v) groups

-- the nodes satisfy the group's quorum set if a member is one of them
abbrev pub IsSettled : (NodeId → Bool) → Group → Type 0
IsSettled nodes g = (v : NodeId) → Contains g.members.items v → nodes v ≡ true → Satisfies nodes g.set.now
