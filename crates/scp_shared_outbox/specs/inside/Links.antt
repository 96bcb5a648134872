-- The ends of one link, and those of all links to one node, as they are handed out and taken in.
-- No public clause reaches this: nothing here need be believed.
use Rattle.std.specs.Prelude.{◌≡◌, ◌≢◌, ℕ, ◌+◌, ◌-◌, ◌≤◌, ◌<◌, List, [], ◌∷◌, ◌++◌, length, Option, Some, None, option_map, slice_get}
use Rattle.atomic_table.specs.Seated.{TableId}
use Rattle.scp_shared_outbox.specs.Ends.{PutterView, MarkerView, TakerView}
use Rattle.scp_shared_outbox.specs.declared.outlets.Outlets.{Outlets}
use Rattle.scp_shared_outbox.specs.Places.{Each, link_of, peer_at}
use Rattle.scp_shared_outbox.specs.Table.{CameOut, desk_of}

-- ---- one link

-- each stage has one more end
pub record IsLonger (short long : Outlets) (first second third : PutterView) : Type 0 where
  pub pend : long.pend.items ≡ short.pend.items ++ first ∷ []
  pub slot : long.slot.items ≡ short.slot.items ++ second ∷ []
  pub apply : long.apply.items ≡ short.apply.items ++ third ∷ []

-- no stage has an end yet
abbrev pub HasNone : ℕ → Outlets → Type 0
HasNone place o = (o.pend.items ≡ []) × (o.slot.items ≡ []) × (o.apply.items ≡ [])

-- the end of this producer of an outbox, which has put nothing
abbrev pub fresh : TableId → ℕ → PutterView
fresh desk number = record { desk = desk; number = number; put = [] }

-- each stage has one more end, of this outbox, by which nothing was put
abbrev pub HasFresh : TableId → Outlets → Outlets → Type 0
HasFresh desk old new = IsLonger old new (fresh desk 0) (fresh desk 1) (fresh desk 2)

-- the last of these ends is of this outbox and producer
pub record EndsIn (desk : TableId) (number : ℕ) (putters : List PutterView) : Type 0 where
  pub front : List PutterView
  pub last : PutterView
  pub is : putters ≡ front ++ last ∷ []
  pub desk_is : last.desk ≡ desk
  pub number_is : last.number ≡ number

-- so it is for each stage: producers 0, 1 and 2
pub record AllEndIn (desk : TableId) (o : Outlets) : Type 0 where
  pub pend : EndsIn desk 0 o.pend.items
  pub slot : EndsIn desk 1 o.slot.items
  pub apply : EndsIn desk 2 o.apply.items

-- if there is a taker, it is of this outbox, which has three producers
abbrev pub IsAnyOf : TableId → Option TakerView → Type 0
IsAnyOf desk None = Unit {0}
IsAnyOf desk (Some t) = (t.desk ≡ desk) × (t.producers ≡ 3)

-- if there is a taker, what it was given came out of what these put
abbrev pub AnyCameOut : PutterView → PutterView → PutterView → Option TakerView → Type 0
AnyCameOut first second third None = Unit {0}
AnyCameOut first second third (Some t) = CameOut first.put second.put third.put t.gave

-- the last ends were taken in, and if there is a taker, what it was given came out of what they put
pub record TookIn (old new : Outlets) (taker : Option TakerView) : Type 0 where
  pub first : PutterView
  pub second : PutterView
  pub third : PutterView
  pub shorter : IsLonger new old first second third
  pub came : AnyCameOut first second third taker

-- ---- all links to one node

-- P relates the elements of one list to those of the other, place by place
pub record ArePairs {T : Type 0} (P : ℕ → T → T → Type 0) (olds news : List T) : Type 0 where
  pub many : length news ≡ length olds
  pub each : (i : ℕ) (old new : T) → slice_get olds i ≡ Some old → slice_get news i ≡ Some new → P i old new

-- the outbox of the marker at a place
abbrev pub desk_in : List MarkerView → ℕ → Option TableId
desk_in markers place = option_map desk_of (slice_get markers place)

-- the end that is given what comes over the link at this place: nothing was given yet
abbrev pub IsNewTaker : List MarkerView → ℕ → TakerView → Type 0
IsNewTaker markers place t = (desk_in markers place ≡ Some t.desk) × (t.producers ≡ 3) × (t.gave ≡ [])

-- the first nodes were handed the ends of their links to this one, except the node itself
pub record HandedOut (markers : List MarkerView) (to index place : ℕ) (old new : Outlets) : Type 0 where
  pub itself : place + 1 ≡ to → new ≡ old
  pub later : index ≤ place → new ≡ old
  pub link : place < index → place + 1 ≢ to → (desk : TableId) × (desk_in markers (link_of (place + 1) to) ≡ Some desk) × HasFresh desk old new

-- the ends of all links to a node come after those of its peers' other links
pub record StandLast (to : ℕ) (outlets : List Outlets) (markers : List MarkerView) (takers : List (Option TakerView)) : Type 0 where
  pub many : length takers ≡ length markers
  pub ends : Each (λ place m. (o : Outlets) × (slice_get outlets (peer_at place to - 1) ≡ Some o) × AllEndIn m.desk o) markers
  pub takers_are : Each (λ place t. (m : MarkerView) × (slice_get markers place ≡ Some m) × IsAnyOf m.desk t) takers

-- of the links to a node, those at the first places were taken in
pub record TookFrom (to : ℕ) (takers : List (Option TakerView)) (place : ℕ) (old new : Outlets) : Type 0 where
  pub itself : place + 1 ≡ to → new ≡ old
  pub later : place + 1 ≢ to → length takers ≤ link_of (place + 1) to → new ≡ old
  pub link : place + 1 ≢ to → (t : Option TakerView) → slice_get takers (link_of (place + 1) to) ≡ Some t → TookIn old new t
