-- Which places stay marked in one pass.
-- No public clause reaches this: nothing here need be believed.
use Rattle.std.specs.Prelude.{ℕ, Bool, false, List, [], ◌∷◌, Option, Some, None, get_or, slice_get, IsTrue, ◌↔◌}
use Rattle.std.specs.declared.sync.Arc.{Arc}
use Rattle.std.specs.Global.{Global}
use Rattle.scp_xdr.specs.scp_types.specs.declared.names.NodeId.{NodeId}
use Rattle.scp_quorum.specs.declared.sane_set.SaneSet.{SaneSet}
use Rattle.scp_quorum.specs.declared.quorum.places.Seat.{Seat}
use Rattle.scp_quorum.specs.Satisfies.{Satisfies}

-- for each set, whether the nodes satisfy it
abbrev pub AreVerdicts : (NodeId → Bool) → List (Arc SaneSet Global) → List Bool → Type 0
AreVerdicts nodes [] [] = Unit {0}
AreVerdicts nodes [] (b ∷ bs) = ⊥
AreVerdicts nodes (s ∷ ss) [] = ⊥
AreVerdicts nodes (s ∷ ss) (b ∷ bs) = (IsTrue b ↔ Satisfies nodes s.value) × AreVerdicts nodes ss bs

-- the verdict on the group of a seat
abbrev pub verdict_on : List Bool → Option Seat → Bool
verdict_on verdicts None = false
verdict_on verdicts (Some seat) = get_or verdicts seat.group false

-- the verdict on the group of the seat at a place
abbrev pub kept_at : List Seat → List Bool → ℕ → Bool
kept_at seats verdicts place = verdict_on verdicts (slice_get seats place)
