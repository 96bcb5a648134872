-- What searches show of the loss of nodes.
use Rattle.std.specs.Prelude.{◌<◌, ℕ, Bool, List, Some, None}
use Rattle.std.specs.List.{All}
use Rattle.scp_quorum.specs.scp_types.specs.declared.names.NodeId.{NodeId}
use Rattle.scp_quorum.specs.NodeSet.{is_in}
use Rattle.scp_quorum_search.specs.declared.member.Member.{Member}
use Rattle.scp_quorum_search.specs.declared.tries.Tries.{Tries}
use Rattle.scp_quorum_search.specs.declared.halting.Halting.{Halting}
use Rattle.scp_quorum_search.specs.declared.halting.Halting.TheVariants as halting
use Rattle.scp_quorum_search.specs.declared.surviving.Survival.{Survival}
use Rattle.scp_quorum_search.specs.declared.surviving.Survival.TheVariants as survived
use Rattle.scp_quorum_search.specs.Quorums.{IsSmallestHalting, IsListed, Survives, IsGreatestSurvived}
use Rattle.scp_quorum_search.specs.Meeting.{IsSpent}

-- All smallest sets whose loss halts the node; or some of them, and the tries are used up.
abbrev pub ShowsHalting : List Member → NodeId → Tries → Halting → Type 0
ShowsHalting members at tries (halting.All found) =
    All (λ lost. IsSmallestHalting members at (is_in lost)) found.items × ((lost : NodeId → Bool) → IsSmallestHalting members at lost → IsListed found.items lost)
ShowsHalting members at tries (halting.Some found) = All (λ lost. IsSmallestHalting members at (is_in lost)) found.items × IsSpent tries

-- The loss of fewer members than this number is survived, whichever they are.
abbrev pub SurviveBelow : List Member → ℕ → Type 0
SurviveBelow members below = (count : ℕ) → count < below → Survives members count

-- The greatest number of lost members, less than all, that is survived; or not even none is; or the tries are used up, and fewer than this
-- number are survived.
abbrev pub ShowsSurvived : List Member → Tries → Survival → Type 0
ShowsSurvived members tries (survived.Most count) = IsGreatestSurvived members (Some count)
ShowsSurvived members tries survived.None = IsGreatestSurvived members None
ShowsSurvived members tries (survived.Unknown below) = SurviveBelow members below × IsSpent tries
