-- The seats of nodes, and the groups of those that share a quorum set.
-- No public clause reaches this: nothing here need be believed.
use Rattle.std.specs.Prelude.{◌≡◌, ◌≢◌, ◌<◌, ℕ, List, Option, Some, None, IsSomeAnd, slice_get}
use Rattle.std.specs.Option.{option_map, ForSome}
use Rattle.std.specs.BTreeMap as node_map
use Rattle.std.specs.BTreeMap.{BTreeMap}
use Rattle.std.specs.declared.sync.Arc.{Arc}
use Rattle.std.specs.Global.{Global}
use Rattle.scp_quorum.specs.scp_types.specs.declared.names.NodeId.{NodeId}
use Rattle.scp_quorum.specs.declared.sane_set.SaneSet.{SaneSet}
use Rattle.scp_quorum.specs.declared.quorum.places.Seat.{Seat}
use Rattle.scp_quorum.specs.NodeSet.{node_cmp}
use Rattle.scp_quorum.specs.QuorumTree.{QuorumTree}
use Rattle.scp_quorum.specs.Places.{set_of_group}
use Rattle.scp_vote.specs.declared.statements.Entry.{Entry}

abbrev pub Shared : Type 0
Shared = Arc SaneSet Global

-- the seat at the node's place is its own, and its group has the set that counts
abbrev pub IsSeated : List Seat → List Shared → NodeId → Entry → Type 0
IsSeated seats sets v e = IsSomeAnd (slice_get seats e.place) (λ s. (s.node ≡ v) × (set_of_group sets s.group ≡ Some e.counted.value))

-- each node with a statement is seated
abbrev pub AreSeated : BTreeMap NodeId Entry → List Seat → List Shared → Type 0
AreSeated entries seats sets = (v : NodeId) → ForSome (node_map.get node_cmp entries v) (IsSeated seats sets v)

-- where a node has its seat
abbrev pub place_in : BTreeMap NodeId Entry → NodeId → Option ℕ
place_in entries v = option_map (λ (e : Entry). e.place) (node_map.get node_cmp entries v)

-- the groups of the seats have the sets that they had before
abbrev pub KeepsSets : List Seat → List Shared → List Shared → Type 0
KeepsSets seats old new = (p : ℕ) (s : Seat) → slice_get seats p ≡ Some s → (q : QuorumTree) → set_of_group old s.group ≡ Some q → set_of_group new s.group ≡ Some q

-- no seat has this one of the first groups
abbrev pub IsUnused : List Seat → ℕ → ℕ → Type 0
IsUnused seats groups g = (p : ℕ) (s : Seat) → slice_get seats p ≡ Some s → s.group < groups → s.group ≢ g

-- a node's place: its own, or the one after all seats
pub record IsPlaceFor (entries : BTreeMap NodeId Entry) (count : ℕ) (v : NodeId) (place : ℕ) : Type 0 where
  pub own : (e : Entry) → node_map.get node_cmp entries v ≡ Some e → place ≡ e.place
  pub behind : node_map.get node_cmp entries v ≡ None → place ≡ count

-- The item is there, and all others are where they were.
pub record IsPutAt {X : Type 0} (old new : List X) (place : ℕ) (item : X) : Type 0 where
  pub there : slice_get new place ≡ Some item
  pub others : (p : ℕ) → p ≢ place → (x : X) → slice_get old p ≡ Some x → slice_get new p ≡ Some x
