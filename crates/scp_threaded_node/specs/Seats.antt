-- How the channels and workers of one node belong together.
use Rattle.std.specs.Prelude.{◌≡◌, ℕ, ◌+◌, Bool, true, false, List, [], length, Some, slice_get}
use Rattle.scp_gather.specs.scp_types.specs.declared.names.NodeId.{NodeId}
use Rattle.scp_gather.specs.scp_quorum.specs.QuorumTree.{QuorumTree}
use Rattle.scp_gather.specs.scp_wire.specs.declared.link.Inbound.{Inbound}
use Rattle.scp_gather.specs.scp_wire.specs.declared.link.LinkItem.{LinkItem}
pub use Rattle.scp_gather.specs.scp_shared_outbox.specs.Places.{Each}
use Rattle.scp_gather.specs.scp_ends.specs.Ends.{Line, Sender}
use Rattle.scp_gather.specs.scp_ends.specs.Links.{LinkEnd}
use Rattle.scp_gather.specs.scp_types.specs.declared.capacities.Capacities.{Capacities}
use Rattle.scp_gather.specs.scp_workers.specs.Working.{Work}
use Rattle.scp_gather.specs.scp_workers.specs.Reading.{ReaderWork}
use Rattle.scp_gather.specs.scp_workers.specs.Pending.{PendWork, IsFor as PendsFor}
use Rattle.scp_gather.specs.scp_workers.specs.Slot.{SlotWork, IsFor as JournalsFor}
use Rattle.scp_gather.specs.scp_workers.specs.Apply.{ApplyWork}
use Rattle.scp_threaded_node.specs.declared.make.Lane.{Lane}
use Rattle.scp_threaded_node.specs.declared.node.Tail.{Tail}
use Rattle.scp_threaded_node.specs.declared.node.Tail.TheVariants.{Host, Courier}
use Rattle.scp_threaded_node.specs.declared.node.Running.{Running}
use Rattle.scp_threaded_node.specs.declared.node.Node.{Node}

-- ---- as they were started

-- the worker sends to this channel, as the producer of this number
abbrev pub SendsAs : {T U S : Type 0} → Line U → ℕ → Work T U S → Type 0
SendsAs {T} {U} {S} line n w = (s : Sender U) × (w.output ≡ Some s) × (s.line ≡ line) × (s.number ≡ n)

-- The link from this peer, with this capacity, and its reader, which sends to this place of the inbox.
pub record IsLane (me peer : NodeId) (inbox : Line Inbound) (room place : ℕ) (k : LinkEnd) (r : ReaderWork) : Type 0 where
  pub from : k.from ≡ peer
  pub to : k.to ≡ me
  pub line : k.tail.line ≡ r.input.line
  pub tail : k.tail.number ≡ 0
  pub alone : r.input.producers ≡ 1
  pub room_is : r.input.room ≡ room
  pub goes_to : SendsAs inbox place r

-- the links of a node before their threads are started: each comes from the peer at its place
abbrev pub AreLanes : NodeId → List NodeId → Line Inbound → ℕ → List Lane → Type 0
AreLanes me peers inbox room lanes = Each (λ i x. (peer : NodeId) → slice_get peers i ≡ Some peer → IsLane me peer inbox room i x.tail x.reader) lanes

-- nothing was sent over any of these links
abbrev pub AreUnused : List Lane → Type 0
AreUnused lanes = Each (λ i x. x.tail.tail.sent ≡ []) lanes

-- the sending end of a running link: as it is, or as it was given to its courier
abbrev pub tail_of : Tail → LinkEnd
tail_of (Host k) = k
tail_of (Courier thread) = thread.promise.0.value.link

-- a courier sends on the link
abbrev pub is_carried : Tail → Bool
is_carried (Host k) = false
is_carried (Courier thread) = true

-- If the host drives a link, its end sent exactly these items. Else a courier sends on it.
abbrev pub IsDriven : Bool → List LinkItem → Tail → Type 0
IsDriven true sent tail = (k : LinkEnd) × (tail ≡ Host k) × (k.tail.sent ≡ sent)
IsDriven false sent tail = is_carried tail ≡ true

-- over each link that the host drives exactly these items were sent, and on each other link a courier sends
abbrev pub AreDriven : (ℕ → Bool) → (ℕ → List LinkItem) → List Running → Type 0
AreDriven driven sent lanes = Each (λ i x. IsDriven (driven i) (sent i) x.tail) lanes

-- the links of a node whose threads run: each comes from the peer at its place
abbrev pub AreRunning : NodeId → List NodeId → Line Inbound → ℕ → List Running → Type 0
AreRunning me peers inbox room lanes = Each (λ i x. (peer : NodeId) → slice_get peers i ≡ Some peer → IsLane me peer inbox room i (tail_of x.tail) x.reader.promise.0.value) lanes

module _ {A : Type 0} where
  -- The stages of a node with these peers, one after the other. The channel before each stage has its capacity.
  pub record AreStages (me : NodeId) (set : QuorumTree) (peers : List NodeId) (caps : Capacities) (pend : PendWork) (slot : SlotWork A) (apply : ApplyWork) : Type 0 where
    pub pend_of : PendsFor me peers set pend.first
    pub slot_of : JournalsFor me peers set slot.first.ledger
    pub producers : pend.input.producers ≡ length peers + 1
    pub ready : SendsAs slot.input.line 0 pend × (slot.input.producers ≡ 1)
    pub decided : SendsAs apply.input.line 0 slot × (apply.input.producers ≡ 1)
    pub rooms : (pend.input.room ≡ caps.inbox) × (slot.input.room ≡ caps.ready) × (apply.input.room ≡ caps.decided)

-- the node's own commands enter the inbox as its last producer, after the links
abbrev pub IsLocal : List NodeId → PendWork → Sender Inbound → Type 0
IsLocal peers pend local = (local.line ≡ pend.input.line) × (local.number ≡ length peers)

module _ {A S : Type 0} where
  -- A running node with these peers. Its workers and channels belong together, and the channels have these capacities.
  pub record Runs (me : NodeId) (set : QuorumTree) (peers : List NodeId) (caps : Capacities) (node : Node A S) : Type 0 where
    pub count : length node.lanes.items ≡ length peers
    pub lanes : AreRunning me peers node.pend.promise.0.value.input.line caps.link node.lanes.items
    pub local : IsLocal peers node.pend.promise.0.value node.local
    pub stages : AreStages me set peers caps node.pend.promise.0.value node.slot.promise.0.value node.apply.promise.0.value
