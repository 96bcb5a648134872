-- Quorums over the quorum sets of some nodes, and what the loss of nodes does to them (the SCP draft).
use Rattle.std.specs.Prelude.{◌≡◌, ◌<◌, ◌≤◌, ℕ, Bool, true, false, List, Option, Some, None, length, count_by}
use Rattle.std.specs.List.{All, Any}
use Rattle.std.specs.BTreeSet.{BTreeSet}
use Rattle.scp_quorum.specs.scp_types.specs.declared.names.NodeId.{NodeId}
use Rattle.scp_quorum.specs.NodeSet.{is_in}
use Rattle.scp_quorum.specs.Satisfies.{Satisfies, AreDisjoint}
use Rattle.scp_quorum.specs.Quorum.{IsWithin}
use Rattle.scp_quorum_search.specs.declared.member.Member.{Member}

-- Each of the nodes is a member.
abbrev pub AreMembers : List Member → (NodeId → Bool) → Type 0
AreMembers members nodes = (v : NodeId) → nodes v ≡ true → Any (λ m. m.node ≡ v) members

-- The nodes satisfy the quorum set of each member that is one of them.
abbrev pub SatisfyMembers : List Member → (NodeId → Bool) → Type 0
SatisfyMembers members nodes = All (λ m. nodes m.node ≡ true → Satisfies nodes m.set) members

-- A quorum of the members: at least one of them, which satisfy the quorum set of each of them.
pub record IsQuorumOf (members : List Member) (nodes : NodeId → Bool) : Type 0 where
  pub some : (v : NodeId) × (nodes v ≡ true)
  pub known : AreMembers members nodes
  pub satisfied : SatisfyMembers members nodes

-- A node is in both.
abbrev pub Share : (NodeId → Bool) → (NodeId → Bool) → Type 0
Share us vs = (v : NodeId) × (us v ≡ true) × (vs v ≡ true)

-- Each two quorums of the members have a common node.
abbrev pub Intersect : List Member → Type 0
Intersect members = (us vs : NodeId → Bool) → IsQuorumOf members us → IsQuorumOf members vs → Share us vs

-- A node goes on without these: it is in a quorum that has none of them.
abbrev pub GoesOnWithout : List Member → NodeId → (NodeId → Bool) → Type 0
GoesOnWithout members at lost = (nodes : NodeId → Bool) × IsQuorumOf members nodes × (nodes at ≡ true) × AreDisjoint nodes lost

-- Other members whose loss halts a node: without them it is in no quorum.
pub record IsHalting (members : List Member) (at : NodeId) (lost : NodeId → Bool) : Type 0 where
  pub known : AreMembers members lost
  pub others : lost at ≡ false
  pub halts : GoesOnWithout members at lost → ⊥

-- A smallest set of other members whose loss halts a node: no smaller part of it halts the node.
pub record IsSmallestHalting (members : List Member) (at : NodeId) (lost : NodeId → Bool) : Type 0 where
  pub halting : IsHalting members at lost
  pub smallest : (part : NodeId → Bool) → IsHalting members at part → IsWithin part lost → IsWithin lost part

-- Whichever members are lost, at most this many, each other one goes on without them.
abbrev pub Survives : List Member → ℕ → Type 0
Survives members count =
    (lost : NodeId → Bool) → AreMembers members lost → count_by (λ m. lost m.node) members ≤ count →
    All (λ m. lost m.node ≡ false → GoesOnWithout members m.node lost) members

-- The greatest number of lost members, less than all, that is survived whichever they are. None if not even the loss of no member is
-- survived, or if there are no members.
abbrev pub IsGreatestSurvived : List Member → Option ℕ → Type 0
IsGreatestSurvived members (Some count) = (count < length members) × Survives members count × ((more : ℕ) → more < length members → Survives members more → more ≤ count)
IsGreatestSurvived members None = (count : ℕ) → count < length members → Survives members count → ⊥

-- The list contains this set of nodes.
abbrev pub IsListed : List (BTreeSet NodeId) → (NodeId → Bool) → Type 0
IsListed groups nodes = Any (λ group. (v : NodeId) → is_in group v ≡ nodes v) groups
