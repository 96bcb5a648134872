-- What the loss of nodes does, among the nodes of a quest.
-- No public clause reaches this: nothing here need be believed.
use Rattle.std.specs.Prelude.{◌≡◌, ◌≤◌, ℕ, Bool, true, false, List, cond, count_by}
use Rattle.std.specs.List.{All, Contains}
use Rattle.std.specs.BTreeMap.{is_at}
use Rattle.std.specs.BTreeSet.{BTreeSet}
use Rattle.scp_quorum.specs.scp_types.specs.declared.names.NodeId.{NodeId}
use Rattle.scp_quorum.specs.NodeSet.{node_cmp, is_in}
use Rattle.scp_quorum.specs.Quorum.{IsWithin}
use Rattle.scp_quorum.specs.Satisfies.{AreDisjoint}
use Rattle.scp_quorum_search.specs.declared.tries.Tries.{Tries}
use Rattle.scp_quorum_search.specs.declared.quest.Quest.{Quest}
use Rattle.scp_quorum_search.specs.declared.few.Few.{Few}
use Rattle.scp_quorum_search.specs.declared.few.Few.TheVariants as few
use Rattle.scp_quorum_search.specs.Quorums.{IsListed}
use Rattle.scp_quorum_search.specs.Meeting.{IsSpent}
use Rattle.scp_quorum_search.specs.inside.Search.{AreListed, IsQuorumIn, IsBetween}

-- the node is in a quorum that has none of the lost ones
abbrev pub GoesOnIn : Quest → NodeId → (NodeId → Bool) → Type 0
GoesOnIn quest at lost = (us : NodeId → Bool) × IsQuorumIn quest us × (us at ≡ true) × AreDisjoint us lost

-- other nodes of the quest whose loss halts the node
pub record IsHaltingIn (quest : Quest) (at : NodeId) (lost : NodeId → Bool) : Type 0 where
  pub listed : AreListed quest.all.now lost
  pub others : lost at ≡ false
  pub halts : GoesOnIn quest at lost → ⊥

-- no smaller part of the lost nodes halts the node
abbrev pub IsSmallestIn : Quest → NodeId → (NodeId → Bool) → Type 0
IsSmallestIn quest at lost = (part : NodeId → Bool) → (GoesOnIn quest at part → ⊥) → IsWithin part lost → IsWithin lost part

-- one node less
abbrev pub less : NodeId → (NodeId → Bool) → NodeId → Bool
less node nodes v = cond (is_at (node_cmp node) v) false (nodes v)

-- the node is kept, or with it again the other one goes on
abbrev pub IsNeeded : Quest → NodeId → (NodeId → Bool) → NodeId → Type 0
IsNeeded quest at lost node = lost node ≡ true → GoesOnIn quest at (less node lost)

-- none of the nodes is this one
abbrev pub AreOthers : NodeId → List NodeId → Type 0
AreOthers at nodes = All (λ v. v ≡ at → ⊥) nodes

-- each smallest set between the lost nodes and those that are left is in the list
abbrev pub AllGathered : Quest → NodeId → (NodeId → Bool) → List NodeId → List (BTreeSet NodeId) → Type 0
AllGathered quest at lost left found = (us : NodeId → Bool) → IsHaltingIn quest at us → IsSmallestIn quest at us → IsBetween lost left us → IsListed found us

-- each set of the list is a smallest one
abbrev pub AreSmallest : Quest → NodeId → List (BTreeSet NodeId) → Type 0
AreSmallest quest at found = All (λ lost. IsHaltingIn quest at (is_in lost) × IsSmallestIn quest at (is_in lost)) found

-- nodes whose loss halts the node, at most this many of the members
abbrev pub IsHaltedBy : Quest → NodeId → ℕ → (NodeId → Bool) → Type 0
IsHaltedBy quest at count us = IsHaltingIn quest at us × (count_by (λ m. us m.node) quest.members.now ≤ count)

-- what a search for at most so many nodes shows: there are such nodes; or none between the lost ones and those that are left; or it is
-- unknown, and the tries are used up
abbrev pub ShowsFew : Quest → NodeId → ℕ → (NodeId → Bool) → List NodeId → Tries → Few → Type 0
ShowsFew quest at count lost left tries few.Halt = (us : NodeId → Bool) × IsHaltedBy quest at count us
ShowsFew quest at count lost left tries few.Survive = (us : NodeId → Bool) → IsHaltedBy quest at count us → IsBetween lost left us → ⊥
ShowsFew quest at count lost left tries few.Unknown = IsSpent tries

-- what searches for at most so many nodes show of each of these nodes
abbrev pub ShowsFewOfAll : Quest → List NodeId → ℕ → Tries → Few → Type 0
ShowsFewOfAll quest nodes count tries few.Halt = (at : NodeId) × (us : NodeId → Bool) × Contains nodes at × IsHaltedBy quest at count us
ShowsFewOfAll quest nodes count tries few.Survive = (at : NodeId) (us : NodeId → Bool) → Contains nodes at → IsHaltedBy quest at count us → ⊥
ShowsFewOfAll quest nodes count tries few.Unknown = IsSpent tries
