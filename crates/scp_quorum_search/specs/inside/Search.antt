-- A search for a quorum that another one lies apart from: between chosen nodes and those that are left.
-- No public clause reaches this: nothing here need be believed.
use Rattle.std.specs.Prelude.{◌≡◌, ◌≤◌, ◌⊎◌, Bool, true, List, length, cond, nat_eq, count_by}
use Rattle.std.specs.List.{All, Contains}
use Rattle.std.specs.BTreeMap.{is_at}
use Rattle.std.specs.Cmp.Lexicographic.{pointwise}
use Rattle.scp_quorum.specs.scp_types.specs.declared.names.NodeId.{NodeId}
use Rattle.scp_quorum.specs.NodeSet.{node_cmp, is_in}
use Rattle.scp_quorum.specs.Quorum.{IsWithin}
use Rattle.scp_quorum.specs.Satisfies.{AreDisjoint}
use Rattle.scp_quorum_search.specs.declared.member.Member.{Member}
use Rattle.scp_quorum_search.specs.declared.tries.Tries.{Tries}
use Rattle.scp_quorum_search.specs.declared.meeting.Meeting.{Meeting}
use Rattle.scp_quorum_search.specs.declared.meeting.Meeting.TheVariants as meeting
use Rattle.scp_quorum_search.specs.declared.quest.Look.{Look}
use Rattle.scp_quorum_search.specs.declared.quest.Look.TheVariants as look
use Rattle.scp_quorum_search.specs.declared.quest.Quest.{Quest}
use Rattle.scp_quorum_search.specs.Meeting.{IsSpent}
use Rattle.scp_quorum_search.specs.Beside.{SatisfyBeside}

-- each of the nodes is listed
abbrev pub AreListed : List NodeId → (NodeId → Bool) → Type 0
AreListed nodes us = (v : NodeId) → us v ≡ true → Contains nodes v

-- at least one of the nodes of the quest, and with the liars they satisfy the quorum set of each of them
pub record IsQuorumIn (quest : Quest) (us : NodeId → Bool) : Type 0 where
  pub some : (v : NodeId) × (us v ≡ true)
  pub listed : AreListed quest.all.now us
  pub satisfied : SatisfyBeside (is_in quest.liars.now) quest.members.now us

-- a quorum, and another one without a common node
pub record HasOther (quest : Quest) (us : NodeId → Bool) : Type 0 where
  pub quorum : IsQuorumIn quest us
  pub other : NodeId → Bool
  pub other_is : IsQuorumIn quest other
  pub apart : AreDisjoint us other

-- all the chosen nodes, and besides them only nodes that are left
pub record IsBetween (chosen : NodeId → Bool) (left : List NodeId) (us : NodeId → Bool) : Type 0 where
  pub has : IsWithin chosen us
  pub rest : (v : NodeId) → us v ≡ true → (chosen v ≡ true) ⊎ Contains left v

-- no quorum between the chosen nodes and those that are left has another one apart from it
abbrev pub NoneBetween : Quest → (NodeId → Bool) → List NodeId → Type 0
NoneBetween quest chosen left = (us : NodeId → Bool) → HasOther quest us → IsBetween chosen left us → ⊥

-- what one look at chosen nodes and those that are left shows
abbrev pub IsLook : Quest → (NodeId → Bool) → List NodeId → Look → Type 0
IsLook quest chosen left look.Dead = NoneBetween quest chosen left
IsLook quest chosen left (look.Apart one other) = IsQuorumIn quest (is_in one) × IsQuorumIn quest (is_in other) × AreDisjoint (is_in one) (is_in other)
IsLook quest chosen left (look.Left next) =
    All (Contains left) next.items × (length next.items ≤ length left)
    × ((us : NodeId → Bool) → IsQuorumIn quest us → IsBetween chosen left us → IsBetween chosen next.items us)
    × ((us : NodeId → Bool) → IsQuorumIn quest us → IsWithin us chosen → ⊥)

-- what a search between chosen nodes and those that are left shows
abbrev pub Finds : Quest → (NodeId → Bool) → List NodeId → Tries → Meeting → Type 0
Finds quest chosen left tries (meeting.Disjoint one other) = IsQuorumIn quest (is_in one) × IsQuorumIn quest (is_in other) × AreDisjoint (is_in one) (is_in other)
Finds quest chosen left tries meeting.Intersect = NoneBetween quest chosen left
Finds quest chosen left tries meeting.Unknown = IsSpent tries

-- one more node
abbrev pub is_or_in : NodeId → (NodeId → Bool) → NodeId → Bool
is_or_in node nodes v = cond (is_at (node_cmp node) v) true (nodes v)

-- the second node is the first
abbrev pub is_node : NodeId → NodeId → Bool
is_node a v = pointwise nat_eq v.0 a.0

-- the nodes, where two of them have changed places
abbrev pub swapped : NodeId → NodeId → (NodeId → Bool) → NodeId → Bool
swapped a b us v = cond (is_node a v) (us b) (cond (is_node b v) (us a) (us v))

-- Two nodes may change places: what satisfies itself does so too afterwards, and the members have one as often as the other.
pub record MaySwap (liars : NodeId → Bool) (members : List Member) (a b : NodeId) : Type 0 where
  pub keeps : (us : NodeId → Bool) → SatisfyBeside liars members us → SatisfyBeside liars members (swapped a b us)
  pub often : count_by (λ m. is_node a m.node) members ≡ count_by (λ m. is_node b m.node) members
