-- The outbox ends of all nodes while they run.
use Rattle.std.specs.Prelude.{◌≡◌, ℕ, ◌+◌, ◌⊎◌, Bool, List, length, map, Option, None, Some, slice_get}
use Rattle.std.specs.Global.{Vec}
use Rattle.std.specs.List.{AllByRecursion}
use Rattle.atomic_table.specs.Seated.{TableId}
use Rattle.scp_threaded_node.specs.scp_shared_outbox.specs.Ends.{MarkerView, TakerView}
use Rattle.scp_threaded_node.specs.scp_shared_outbox.specs.Places.{Each}
use Rattle.scp_threaded_node.specs.scp_shared_outbox.specs.Table.{desk_of, ArePuttersOf, IsAnyTakerOf}
use Rattle.scp_threaded_node.specs.Kv.{Node}
use Rattle.scp_threaded_node.specs.declared.node.Source.{Source}
use Rattle.scp_threaded_node.specs.Outlets.{GivenEnds, given_to}
use Rattle.scp_threaded_node.specs.Sources.{taker_from}

-- the outboxes that these markers belong to
abbrev pub desks_in : Vec MarkerView → List TableId
desks_in row = map desk_of row.items

-- the markers belong to the same outboxes
abbrev pub AreSameMarkers : List (Vec MarkerView) → List (Vec MarkerView) → Type 0
AreSameMarkers old new = map desks_in new ≡ map desks_in old

-- the courier of each link that has one is given the outbox end of its own link
abbrev pub AreTakenFrom : List TakerView → List (Option Source) → Type 0
AreTakenFrom row sources = Each (λ i source. (t : TakerView) → slice_get row i ≡ Some t → (taker_from source ≡ None) ⊎ (taker_from source ≡ Some t)) sources

-- the node of this number was given the outbox ends of its own links; `count` is the number of nodes
pub record IsSeated (count : ℕ) (markers : List (Vec MarkerView)) (node : ℕ) (given : GivenEnds) : Type 0 where
  pub replies : ArePuttersOf count markers node 0 given.replies
  pub said : ArePuttersOf count markers node 1 given.said
  pub answers : ArePuttersOf count markers node 2 given.answers
  pub takers_many : length given.takers + 1 ≡ count
  pub takers : Each (IsAnyTakerOf markers node) given.takers

-- what nodes were given
abbrev pub all_given : List Node → List GivenEnds
all_given nodes = map given_to nodes

-- the same for each node, by its number
abbrev pub AreSeated : ℕ → List (Vec MarkerView) → List GivenEnds → Type 0
AreSeated count markers given = Each (λ i g. IsSeated count markers (i + 1) g) given

-- what comes over each link of the node is kept if `keeps` is set, and else over none
abbrev pub IsKeeping : Bool → GivenEnds → Type 0
IsKeeping keeps g = AllByRecursion (λ b. b ≡ keeps) g.keeps

-- the same for each node
abbrev pub AreKeeping : Bool → List GivenEnds → Type 0
AreKeeping keeps given = Each (λ i g. IsKeeping keeps g) given
