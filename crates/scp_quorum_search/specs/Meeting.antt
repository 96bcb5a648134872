-- What a search for two quorums without a common node shows.
use Rattle.std.specs.Prelude.{◌≡◌, ◌≤◌, ℕ, Bool, List, Some}
use Rattle.scp_quorum.specs.scp_types.specs.declared.names.NodeId.{NodeId}
use Rattle.scp_quorum.specs.NodeSet.{is_in}
use Rattle.scp_quorum.specs.Satisfies.{AreDisjoint}
use Rattle.scp_quorum_search.specs.declared.member.Member.{Member}
use Rattle.scp_quorum_search.specs.declared.tries.Tries.{Tries}
use Rattle.scp_quorum_search.specs.declared.meeting.Meeting.{Meeting}
use Rattle.scp_quorum_search.specs.declared.meeting.Meeting.TheVariants as meeting
use Rattle.scp_quorum_search.specs.Quorums.{IsQuorumOf, Intersect}
use Rattle.scp_quorum_search.specs.Beside.{IsQuorumBeside, IntersectBeside}

-- As many tries were made as may be made.
abbrev pub IsSpent : Tries → Type 0
IsSpent tries = (limit : ℕ) × (tries.limit ≡ Some limit) × (limit ≤ tries.made)

-- Two quorums beside the liars that have no common node; or each two have one; or it is unknown, and the tries are used up.
abbrev pub ShowsBeside : (NodeId → Bool) → List Member → Tries → Meeting → Type 0
ShowsBeside liars members tries (meeting.Disjoint one other) = IsQuorumBeside liars members (is_in one) × IsQuorumBeside liars members (is_in other) × AreDisjoint (is_in one) (is_in other)
ShowsBeside liars members tries meeting.Intersect = IntersectBeside liars members
ShowsBeside liars members tries meeting.Unknown = IsSpent tries

-- The same of the quorums of the members, where none lies.
abbrev pub Shows : List Member → Tries → Meeting → Type 0
Shows members tries (meeting.Disjoint one other) = IsQuorumOf members (is_in one) × IsQuorumOf members (is_in other) × AreDisjoint (is_in one) (is_in other)
Shows members tries meeting.Intersect = Intersect members
Shows members tries meeting.Unknown = IsSpent tries
