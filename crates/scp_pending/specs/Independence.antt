-- A lane that waits delays no other lane.
use Rattle.std.specs.Prelude.{ℕ, ◌≡◌, true, List, [], ◌∷◌, ◌++◌, Option, Some, None, IfSome, is_some}
use Rattle.scp_wire.specs.scp_types.specs.declared.names.ConnId.{ConnId}
use Rattle.scp_wire.specs.scp_types.specs.declared.names.Hash.{Hash}
use Rattle.scp_wire.specs.scp_types.specs.declared.names.NodeId.{NodeId}
use Rattle.scp_wire.specs.scp_quorum.specs.QuorumTree.{QuorumTree}
use Rattle.scp_wire.specs.declared.carried.Carried.{Carried}
use Rattle.scp_wire.specs.declared.link.Inbound.{Inbound}
use Rattle.scp_wire.specs.declared.link.Inbound.TheVariants as inbound
use Rattle.scp_wire.specs.Lanes.{slot_of}
use Rattle.scp_fetch.specs.Store.{StoreView, lookup}
use Rattle.scp_pending.specs.declared.parked.Parked.{Parked}
use Rattle.scp_pending.specs.declared.parked.Parked.TheVariants.{Waits, Free, Lost}
use Rattle.scp_pending.specs.declared.ready.Ready.{Ready}
use Rattle.scp_pending.specs.declared.ready.Ready.TheVariants.{Deliver}
use Rattle.scp_pending.specs.Pends.{Pends, start_of}
use Rattle.scp_pending.specs.Queues.{is_open, parked_of, at_slot, named}
use Rattle.scp_pending.specs.Rules.{PendingView, Settled, rules, releases, settled_by, released_by}

-- A message comes live and waits for nothing: it is no envelope, or its quorum set is stored. And nothing that is parked of
-- its connection names its slot.
pub record MayPass (s : Settled) (x : Carried) : Type 0 where
  pub live : is_open x.conn s.queues ≡ true
  pub known : IfSome (named x.message) (λ hash. is_some (lookup hash s.store) ≡ true)
  pub first : at_slot (slot_of x.message) (parked_of x.conn s.queues) ≡ []

-- the stored quorum set that comes with a message: with an envelope the one whose hash it names, with any other none
abbrev pub set_beside : StoreView → Option Hash → Option QuorumTree
set_beside store None = None
set_beside store (Some hash) = lookup hash store

-- the message, given with its set
abbrev pub delivered : Settled → Carried → Ready
delivered s x = Deliver (record { conn = x.conn; seq = x.seq; message = x.message; set = set_beside s.store (named x.message) })

-- the step that takes the message gives it, with its set, and nothing else; what is parked, stored and wanted stays as it is
pub record PassesAtOnce (s : Settled) (x : Carried) : Type 0 where
  pub given : releases s (inbound.Carried x) ≡ delivered s x ∷ []
  pub stays : rules s (inbound.Carried x) ≡ s

-- what may pass passes at once, however much is parked in other lanes, even of its own connection
abbrev pub WhatMayPassPasses : Type 0
WhatMayPassPasses = (s : Settled) (x : Carried) → MayPass s x → PassesAtOnce s x

-- the message is in what was given, right after what left because of what came before it
pub record StandsDelivered (start : Settled) (before : List Inbound) (x : Carried) (given : List Ready) : Type 0 where
  pub front : List Ready
  pub rest : List Ready
  pub at : given ≡ front ++ delivered (settled_by start before) x ∷ rest
  pub released : front ≡ released_by start before

-- what may pass where it came is at that place in what was given and what is ready
abbrev pub PassesInPlace : Type 0
PassesInPlace = (me : NodeId) (peers : List NodeId) (taken : List Inbound) (given : List Ready) (v : PendingView) → Pends me peers taken given v → (before : List Inbound) (x : Carried) (later : List Inbound) → taken ≡ before ++ inbound.Carried x ∷ later → MayPass (settled_by (start_of me peers v) before) x → StandsDelivered (start_of me peers v) before x (given ++ v.leaving)

-- there is an envelope, and its quorum set isn't stored
abbrev pub LacksItsSet : StoreView → Option Hash → Type 0
LacksItsSet store None = ⊥
LacksItsSet store (Some hash) = lookup hash store ≡ None

-- the head of what is parked in a lane is an envelope of that lane whose own quorum set isn't stored
abbrev pub IsLed : StoreView → ConnId → ℕ → List Parked → Type 0
IsLed store c slot [] = Unit {0}
IsLed store c slot (Waits x ∷ ps) = (x.conn ≡ c) × (slot_of x.message ≡ slot) × LacksItsSet store (named x.message)
IsLed store c slot (Free delivery ∷ ps) = ⊥
IsLed store c slot (Lost x cause ∷ ps) = ⊥

-- each lane in which something is parked is led like this: none waits for the set of another
abbrev pub AreLed : Settled → Type 0
AreLed s = (c : ConnId) (slot : ℕ) → IsLed s.store c slot (at_slot slot (parked_of c s.queues))

-- in any stage, each lane in which something is parked is led by an envelope of its own
abbrev pub LanesAreLed : Type 0
LanesAreLed = (me : NodeId) (peers : List NodeId) (taken : List Inbound) (given : List Ready) (v : PendingView) → Pends me peers taken given v → AreLed v.settled
