-- Which sets of nodes are quorums (the SCP draft). Each node has a quorum set, or none is known.
-- No public clause reaches these definitions: nothing here need be believed.
use Rattle.std.specs.Prelude.{◌≡◌, Bool, true, Option, IsSome}
use Rattle.scp_xdr.specs.scp_types.specs.declared.names.NodeId.{NodeId}
use Rattle.scp_quorum.specs.QuorumTree.{QuorumTree}
use Rattle.scp_quorum.specs.Quorum.{SatisfyThemselves, IsWithin}

-- each of the nodes has a quorum set
abbrev pub AllHaveSets : (NodeId → Option QuorumTree) → (NodeId → Bool) → Type 0
AllHaveSets sets nodes = (v : NodeId) → nodes v ≡ true → IsSome (sets v)

-- whatever satisfies itself inside the old nodes is inside the new ones
abbrev pub KeepsQuorums : (NodeId → Option QuorumTree) → (NodeId → Bool) → (NodeId → Bool) → Type 0
KeepsQuorums sets old new = (others : NodeId → Bool) → SatisfyThemselves sets others → IsWithin others old → IsWithin others new
