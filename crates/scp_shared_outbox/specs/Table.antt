-- The ends of the outboxes of a few nodes, for the link from each to each other.
use Rattle.std.specs.Prelude.{◌≡◌, ℕ, ◌+◌, ◌-◌, List, [], ◌∷◌, length, Option, Some, None, option_map, slice_get}
use Rattle.std.specs.Global.{Vec}
use Rattle.atomic_table.specs.Seated.{TableId}
use Rattle.scp_outbox.specs.scp_wire.specs.declared.message.Message.{Message}
use Rattle.scp_outbox.specs.declared.mark.Mark.{Mark}
use Rattle.scp_outbox.specs.declared.mark.Out.{Out}
use Rattle.scp_outbox.specs.Outbox.{OutboxView}
use Rattle.scp_shared_outbox.specs.Ends.{PutterView, MarkerView, TakerView}
use Rattle.scp_shared_outbox.specs.Turns.{IsOutOf}
use Rattle.scp_shared_outbox.specs.declared.outlets.Outlets.{Outlets}
use Rattle.scp_shared_outbox.specs.Places.{Each, link_of, peer_at, AreTwoOf}

-- ---- which outbox it is

-- the element at the place, if the list is there
abbrev pub at_place : {T : Type 0} → Option (Vec T) → ℕ → Option T
at_place None place = None
at_place (Some row) place = slice_get row.items place

-- The element for the link from one node to another: `rows` has a row for each node, with an element for each link to it.
abbrev pub at_link : {T : Type 0} → List (Vec T) → ℕ → ℕ → Option T
at_link rows from to = at_place (slice_get rows (to - 1)) (link_of from to)

-- the outbox of a marker
abbrev pub desk_of : MarkerView → TableId
desk_of m = m.desk

-- the outbox whose messages go from one node to another
abbrev pub desk_at : List (Vec MarkerView) → ℕ → ℕ → Option TableId
desk_at markers from to = option_map desk_of (at_link markers from to)

-- ---- whose ends they are

-- this many rows, each with an element for each other node
pub record AreRows {T : Type 0} (count : ℕ) (rows : List (Vec T)) : Type 0 where
  pub nodes : length rows ≡ count
  pub each : Each (λ i row. length row.items + 1 ≡ count) rows

-- this producer's end of the outbox of the node's link at a place
abbrev pub IsPutterOf : List (Vec MarkerView) → ℕ → ℕ → ℕ → PutterView → Type 0
IsPutterOf markers node number place p = (desk_at markers node (peer_at place node) ≡ Some p.desk) × (p.number ≡ number)

-- the ends of one of a node's stages, for each of its links
pub record ArePuttersOf (count : ℕ) (markers : List (Vec MarkerView)) (node number : ℕ) (putters : List PutterView) : Type 0 where
  pub many : length putters + 1 ≡ count
  pub each : Each (IsPutterOf markers node number) putters

-- the ends of its three stages: producers 0, 1 and 2 of each outbox
pub record AreOutletsOf (count : ℕ) (markers : List (Vec MarkerView)) (node : ℕ) (o : Outlets) : Type 0 where
  pub pend : ArePuttersOf count markers node 0 o.pend.items
  pub slot : ArePuttersOf count markers node 1 o.slot.items
  pub apply : ArePuttersOf count markers node 2 o.apply.items

-- the end that is given what goes to a node over its link at a place; the outbox has three producers
abbrev pub IsTakerOf : List (Vec MarkerView) → ℕ → ℕ → TakerView → Type 0
IsTakerOf markers node place t = (desk_at markers (peer_at place node) node ≡ Some t.desk) × (t.producers ≡ 3)

-- ---- when they are made

-- nothing was put by these ends
abbrev pub HavePutNothing : List PutterView → Type 0
HavePutNothing putters = Each (λ i p. p.put ≡ []) putters

-- the ends of all outboxes of this many nodes: nothing was put, marked or given
pub record AreMade (count : ℕ) (outlets : List Outlets) (markers : List (Vec MarkerView)) (takers : List (Vec TakerView)) : Type 0 where
  pub markers_are : AreRows count markers
  pub unmarked : Each (λ i row. Each (λ place m. m.marked ≡ []) row.items) markers
  pub outlets_many : length outlets ≡ count
  pub outlets_are : Each (λ i o. AreOutletsOf count markers (i + 1) o × HavePutNothing o.pend.items × HavePutNothing o.slot.items × HavePutNothing o.apply.items) outlets
  pub takers_many : AreRows count takers
  pub takers_are : Each (λ i row. Each (λ place t. IsTakerOf markers (i + 1) place t × (t.gave ≡ [])) row.items) takers

-- ---- when they are taken back

-- the end that was given what goes over a link, if it is there
abbrev pub IsAnyTakerOf : List (Vec MarkerView) → ℕ → ℕ → Option TakerView → Type 0
IsAnyTakerOf markers node place None = Unit {0}
IsAnyTakerOf markers node place (Some t) = IsTakerOf markers node place t

-- the ends of all outboxes of this many nodes; the takers of some links are kept elsewhere
pub record AreAllBack (count : ℕ) (outlets : List Outlets) (markers : List (Vec MarkerView)) (takers : List (Vec (Option TakerView))) : Type 0 where
  pub markers_are : AreRows count markers
  pub outlets_many : length outlets ≡ count
  pub outlets_are : Each (λ i o. AreOutletsOf count markers (i + 1) o) outlets
  pub takers_many : AreRows count takers
  pub takers_are : Each (λ i row. Each (IsAnyTakerOf markers (i + 1)) row.items) takers

-- the messages, if there is such a list; else none
abbrev pub messages_in : Option (List Message) → List Message
messages_in None = []
messages_in (Some messages) = messages

-- what producers 0, 1 and 2 put
abbrev pub by_three : List Message → List Message → List Message → ℕ → List Message
by_three first second third number = messages_in (slice_get (first ∷ second ∷ third ∷ []) number)

-- what was given is what an outbox gives, in one order of what the three stages of its node put, and of some marks
pub record CameOut (replies said answers : List Message) (gave : List Out) : Type 0 where
  pub marks : List Mark
  pub left : OutboxView
  pub out_of : IsOutOf (by_three replies said answers) marks gave left

-- a stage's end of the outbox of the link at this place put these messages
abbrev pub PutAt : List PutterView → ℕ → List Message → Type 0
PutAt putters place messages = (p : PutterView) × (slice_get putters place ≡ Some p) × (p.put ≡ messages)

-- over each link whose taker is there, what was given came out of its outbox, of what its sender's stages put there
abbrev pub AllCameOut : ℕ → List Outlets → List (Vec (Option TakerView)) → Type 0
AllCameOut count outlets takers = (from to : ℕ) → AreTwoOf count from to → (o : Outlets) → slice_get outlets (from - 1) ≡ Some o
    → (t : TakerView) → at_link takers from to ≡ Some (Some t) → (replies said answers : List Message)
    → PutAt o.pend.items (link_of to from) replies → PutAt o.slot.items (link_of to from) said → PutAt o.apply.items (link_of to from) answers
    → CameOut replies said answers t.gave
