-- Quorums beside nodes that lie (this project's profile). A node that lies says to each other node whatever helps it.
use Rattle.std.specs.Prelude.{◌≡◌, ◌||◌, Bool, true, List}
use Rattle.std.specs.List.{All}
use Rattle.scp_quorum.specs.scp_types.specs.declared.names.NodeId.{NodeId}
use Rattle.scp_quorum.specs.Satisfies.{Satisfies, AreDisjoint}
use Rattle.scp_quorum_search.specs.declared.member.Member.{Member}
use Rattle.scp_quorum_search.specs.Quorums.{AreMembers, Share}

-- The liars, and these nodes.
abbrev pub either : (NodeId → Bool) → (NodeId → Bool) → NodeId → Bool
either liars nodes v = liars v || nodes v

-- With the liars, the nodes satisfy the quorum set of each member that is one of them.
abbrev pub SatisfyBeside : (NodeId → Bool) → List Member → (NodeId → Bool) → Type 0
SatisfyBeside liars members nodes = All (λ m. nodes m.node ≡ true → Satisfies (either liars nodes) m.set) members

-- A quorum of the members beside liars: at least one of the others, none of the liars, and with the liars they satisfy the quorum set of
-- each of them.
pub record IsQuorumBeside (liars : NodeId → Bool) (members : List Member) (nodes : NodeId → Bool) : Type 0 where
  pub some : (v : NodeId) × (nodes v ≡ true)
  pub known : AreMembers members nodes
  pub honest : AreDisjoint nodes liars
  pub satisfied : SatisfyBeside liars members nodes

-- Each two quorums of the members beside the liars have a common node.
abbrev pub IntersectBeside : (NodeId → Bool) → List Member → Type 0
IntersectBeside liars members = (us vs : NodeId → Bool) → IsQuorumBeside liars members us → IsQuorumBeside liars members vs → Share us vs
