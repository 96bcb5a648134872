-- What clients see of a node, and what one event does to it: the table of replies.
use Rattle.std.specs.Prelude.{ℕ, ◌+◌, ◌-◌, ◌<◌, ◌≡◌, ◌≢◌, Bool, true, false, List, [], ◌∷◌, ◌++◌, ◌⊎◌, Option, Some, None, IsSome, length, map, flat_map, slice_get, slice_set, option_to_list, is_some, ◌&&◌, nat_lt, if◌then◌else◌}
use Rattle.scp_theorem.specs.scp_driver.specs.Driver.{Says}
use Rattle.scp_theorem.specs.scp_ledger.specs.declared.journal.TheConstants.{JOURNAL_LIMIT}
use Rattle.scp_theorem.specs.scp_types.specs.declared.limits.TheConstants.{LIFE_LIMIT}
use Rattle.scp_theorem.specs.scp_types.specs.declared.fault.Fault.{Fault}
use Rattle.scp_theorem.specs.scp_types.specs.declared.fault.Fault.TheVariants as faults
use Rattle.scp_theorem.specs.scp_types.specs.declared.names.NodeId.{NodeId}
use Rattle.scp_theorem.specs.scp_envelope.specs.declared.statement.Envelope.{Envelope}
use Rattle.scp_theorem.specs.scp_wire.specs.declared.message.Message.{Message}
use Rattle.scp_theorem.specs.scp_wire.specs.declared.link.LinkItem.{LinkItem}
use Rattle.scp_theorem.specs.scp_wire.specs.declared.link.LinkItem.TheVariants as item
use Rattle.scp_theorem.specs.scp_wire.specs.declared.link.Inbound.{Inbound}
use Rattle.scp_theorem.specs.scp_wire.specs.declared.link.Command.{Command}
use Rattle.scp_theorem.specs.scp_wire.specs.declared.link.Command.TheVariants.{Ask}
use Rattle.scp_theorem.specs.scp_wire.specs.declared.link.Inbound.TheVariants as inbound
use Rattle.scp_theorem.specs.scp_wire.specs.Message.{message_value, SpellsMessage}
use Rattle.scp_theorem.specs.scp_wire.specs.LinkReading.{ReaderView, unread, reading, after}
use Rattle.scp_theorem.specs.scp_wire.specs.Connections.{conn_at}
use Rattle.scp_theorem.specs.scp_outbox.specs.Outbox.{OutboxView}
use Rattle.scp_theorem.specs.scp_outbox.specs.Handing.{HandsOut, GivesNext, GivesThere}
use Rattle.scp_theorem.specs.scp_pending.specs.declared.ready.Ready.{Ready}
use Rattle.scp_theorem.specs.scp_pending.specs.Passes.{Passes}
use Rattle.scp_theorem.specs.scp_pending.specs.Rules.{PendingView, taken_in, reply as reply_to}
use Rattle.scp_theorem.specs.scp_pending.specs.Pends.{Pends, IsIdle}
use Rattle.scp_theorem.specs.scp_ledger.specs.declared.took.CommandFate.{CommandFate}
use Rattle.scp_theorem.specs.scp_ledger.specs.declared.took.Onward.{Onward}
use Rattle.scp_theorem.specs.scp_ledger.specs.declared.took.Outgoing.{Outgoing}
use Rattle.scp_theorem.specs.scp_ledger.specs.declared.took.Outgoing.TheVariants.{To, ToAll}
use Rattle.scp_theorem.specs.scp_ledger.specs.declared.took.Took.{Took}
use Rattle.scp_theorem.specs.scp_ledger.specs.Ledger.{IsLedger}
use Rattle.scp_theorem.specs.scp_ledger.specs.Takes.{adds_entry}
use Rattle.scp_theorem.specs.scp_apply.specs.Applier.{ApplierView, IsApplier, IsRunning}
use Rattle.scp_theorem.specs.scp_apply.specs.Applier.{Takes as Applies}
use Rattle.scp_theorem.specs.Handed.{handed_by}
use Rattle.scp_core.specs.declared.config.Config.{Config}
use Rattle.scp_core.specs.declared.event.Event.{Event}
use Rattle.scp_core.specs.declared.event.Event.TheVariants.{Open, Send, Close, Local, ReaderTake, ReaderPut, PendTake, PendPut, SlotTake, SlotPut, ApplyTake, Drain}
use Rattle.scp_core.specs.declared.event.Reply.{Reply}
use Rattle.scp_core.specs.declared.event.Reply.TheVariants.{Failed, NoLink, AlreadyOpen, LivesSpent, NotOpen, Full, Accepted, Blocked, Idle, Moved, Sent, JournalFull, NoMemory}
use Rattle.scp_core.specs.History.{peer_at}
use Rattle.scp_theorem.specs.scp_ledger.specs.Seen.{LedgerView}
use Rattle.scp_theorem.specs.scp_ledger.specs.By.{TakesBy, TellsBy, RunsBy}

-- what contracts see of one link of a node: how often it was opened and whether it is open, what waits in its queue, and what its reader has
-- read
pub record LinkView : Type 0 where
  pub life : ℕ
  pub is_open : Bool
  pub queue : List LinkItem
  pub room : ℕ  -- the most items that the queue holds
  pub reader : ReaderView
  pub hand : List Inbound  -- what was read of the last item and isn't put yet

-- a link that was never open
abbrev pub new_link : ℕ → LinkView
new_link room = record { life = 0; is_open = false; queue = []; room = room; reader = unread; hand = [] }

-- what contracts see of a node: its configuration, whether and why it failed, its links, its stages, and the queue and the hand between any two of
-- them
pub record NodeView (D : Type 0) : Type 0 where
  pub config : Config
  pub failed : Bool
  pub fault : Option Fault  -- why it failed, if it did
  pub links : List LinkView
  pub inbox : List Inbound
  pub inbox_room : ℕ
  pub pending : PendingView
  pub pend_hand : Option Ready
  pub ready : List Ready
  pub ready_room : ℕ
  pub ledger : LedgerView D
  pub slot_hand : Option Onward
  pub last_command : Option CommandFate  -- what became of the command that the slot stage took last; None if what it took last was no command
  pub last_said : List Envelope  -- the own statements for all peers that the slot stage handed out when it took last, in order
  pub decided : List Onward
  pub decided_room : ℕ
  pub applier : ApplierView
  pub outboxes : List OutboxView  -- of each link

module _ {D : Type 0} where
  -- the link is there, and this holds of it
  abbrev pub AtLink : NodeView D → ℕ → (LinkView → Type 0) → Type 0
  AtLink v l P = (k : LinkView) × (slice_get v.links l ≡ Some k) × P k

-- the link's queue has no room left
abbrev pub is_full : LinkView → Type 0
is_full k = length k.queue ≡ k.room

module _ {D : Type 0} where
  -- the node with one link changed
  abbrev pub with_link : NodeView D → ℕ → LinkView → NodeView D
  with_link v l k = record v { links = slice_set v.links l k }

  -- the link that a command names is there
  abbrev pub HasLink : NodeView D → Command → Type 0
  HasLink v (Ask link at) = IsSome (slice_get v.links link)
  HasLink v command = Unit {0}

  -- an accepted event
  abbrev pub Accepts : NodeView D → Event → NodeView D → Type 0
  Accepts old (Open l) new = AtLink old l (λ k. (k.is_open ≡ false) × (k.life < LIFE_LIMIT) × (length k.queue ≢ k.room) × (new ≡ with_link old l (record k { life = k.life + 1; is_open = true; queue = k.queue ++ item.Opened (conn_at (peer_at old.config l) old.config.me (k.life + 1)) ∷ [] })))
  Accepts old (Send l bytes) new = AtLink old l (λ k. (k.is_open ≡ true) × (length k.queue ≢ k.room) × (new ≡ with_link old l (record k { queue = k.queue ++ item.Bytes (conn_at (peer_at old.config l) old.config.me k.life) bytes ∷ [] })))
  Accepts old (Close l) new = AtLink old l (λ k. (k.is_open ≡ true) × (length k.queue ≢ k.room) × (new ≡ with_link old l (record k { is_open = false; queue = k.queue ++ item.Closed (conn_at (peer_at old.config l) old.config.me k.life) ∷ [] })))
  Accepts old (Local command) new = HasLink old command × (length old.inbox ≢ old.inbox_room) × (new ≡ record old { inbox = old.inbox ++ inbound.Local command ∷ [] })
  Accepts old event new = ⊥

-- one thing that goes out is put into the outboxes of its links
abbrev pub HandsOne : List OutboxView → Outgoing → List OutboxView → Type 0
HandsOne old outgoing new = HandsOut old (handed_by (outgoing ∷ [])) new

-- each of these is put so, in order
abbrev pub HandsEach : List OutboxView → List Outgoing → List OutboxView → Type 0
HandsEach old [] new = new ≡ old
HandsEach old (one ∷ outgoing) new = (between : List OutboxView) × HandsOne old one between × HandsEach between outgoing new

-- the own statement that goes to all peers, if it is one
abbrev pub said_by : Outgoing → List Envelope
said_by (ToAll envelope) = envelope ∷ []
said_by (To link message) = []

-- the own statements for all peers among what goes out, in order
abbrev pub said_in : List Outgoing → List Envelope
said_in outgoing = flat_map said_by outgoing

-- a stage's answer: a message for one link, or none
abbrev pub Hands : List OutboxView → Option (ℕ × Message) → List OutboxView → Type 0
Hands old None new = new ≡ old
Hands old (Some answer) new = HandsOne old (To answer.0 answer.1) new

module _ {D : Type 0} where
  -- the pending stage brings what is ready into its hand
  pub record PendBrings (old new : NodeView D) : Type 0 where
    pub thing : Ready
    pub after' : PendingView
    pub passes : (me : NodeId) → (peers : List NodeId) → Passes (Pends me peers) [] (thing ∷ []) old.pending after'
    pub same : after' ≡ record old.pending { leaving = after'.leaving }
    pub is : new ≡ record old { pending = after'; pend_hand = Some thing }

  -- The pending stage, with nothing ready, takes the first item of the inbox by its rules. What is
  -- ready then goes into its hand, and its reply into an outbox.
  pub record PendTakes (old new : NodeView D) : Type 0 where
    pub x : Inbound
    pub rest : List Inbound
    pub inbox : old.inbox ≡ x ∷ rest
    pub nothing_ready : IsIdle old.pending
    pub between : PendingView
    pub after' : PendingView
    pub thing : Option Ready
    pub rules : between ≡ taken_in old.pending x
    pub takes : (me : NodeId) → (peers : List NodeId) → Passes (Pends me peers) (x ∷ []) [] old.pending between
    pub same : after' ≡ record between { leaving = after'.leaving }
    pub gives : (me : NodeId) → (peers : List NodeId) → Passes (Pends me peers) [] (option_to_list thing) between after'
    pub no_thing : thing ≡ None → IsIdle after'
    pub hands : Hands old.outboxes (reply_to old.pending.settled x) new.outboxes
    pub is : new ≡ record old { inbox = rest; pending = after'; pend_hand = thing; outboxes = new.outboxes }

module _ {D : Type 0} (says : Says D) where
  -- the slot stage takes the first ready thing; what it gives on goes into its hand, and what goes out into the outboxes
  pub record SlotTakes (old new : NodeView D) : Type 0 where
    pub x : Ready
    pub rest : List Ready
    pub ready : old.ready ≡ x ∷ rest
    pub after' : LedgerView D
    pub took : Took
    pub takes : TakesBy says old.ledger x took after'
    pub tells : TellsBy says old.ledger x took
    pub known : IsLedger after'
    pub running : RunsBy says after'
    pub hands : HandsEach old.outboxes took.outgoing new.outboxes
    pub is : new ≡ record old { ready = rest; ledger = after'; slot_hand = took.onward; last_command = took.command; last_said = said_in took.outgoing; outboxes = new.outboxes }

module _ {D : Type 0} where
  -- the applier takes the first thing of the decided queue, and its answer goes into an outbox
  pub record ApplyTakes (old new : NodeView D) : Type 0 where
    pub x : Onward
    pub rest : List Onward
    pub decided : old.decided ≡ x ∷ rest
    pub after' : ApplierView
    pub answer : Option (ℕ × Message)
    pub takes : Applies old.applier x answer after'
    pub known : IsApplier after'
    pub running : IsRunning after'
    pub hands : Hands old.outboxes answer new.outboxes
    pub is : new ≡ record old { decided = rest; applier = after'; outboxes = new.outboxes }

  -- a link's outbox gives a message, and its bytes are sent
  pub record Drains (old : NodeView D) (l : ℕ) (bytes : List ℕ) (new : NodeView D) : Type 0 where
    pub message : Message
    pub gives : GivesThere old.outboxes l (Some message) new.outboxes
    pub spells : SpellsMessage bytes (message_value message)
    pub is : new ≡ record old { outboxes = new.outboxes }

  -- a drain sends what its link's outbox gives next; no other event sends
  abbrev pub SendsOut : NodeView D → Event → List ℕ → NodeView D → Type 0
  SendsOut old (Drain l) bytes new = Drains old l bytes new
  SendsOut old event bytes new = ⊥

module _ {D : Type 0} (says : Says D) where
  -- an event that moves something
  abbrev pub Moves : NodeView D → Event → NodeView D → Type 0
  Moves old (ReaderTake l) new = AtLink old l (λ k. (k.hand ≡ []) × (x : LinkItem) × (rest : List LinkItem) × (k.queue ≡ x ∷ rest) × (new ≡ with_link old l (record k { queue = rest; reader = after k.reader x; hand = reading k.reader x })))
  Moves old (ReaderPut l) new = AtLink old l (λ k. (length old.inbox ≢ old.inbox_room) × (x : Inbound) × (xs : List Inbound) × (k.hand ≡ x ∷ xs) × (new ≡ record old { links = slice_set old.links l (record k { hand = xs }); inbox = old.inbox ++ x ∷ [] }))
  Moves old PendTake new = (old.pend_hand ≡ None) × (PendBrings old new ⊎ PendTakes old new)
  Moves old PendPut new = (length old.ready ≢ old.ready_room) × (x : Ready) × (old.pend_hand ≡ Some x) × (new ≡ record old { pend_hand = None; ready = old.ready ++ x ∷ [] })
  Moves old SlotTake new = (old.slot_hand ≡ None) × SlotTakes says old new
  Moves old SlotPut new = (length old.decided ≢ old.decided_room) × (x : Onward) × (old.slot_hand ≡ Some x) × (new ≡ record old { slot_hand = None; decided = old.decided ++ x ∷ [] })
  Moves old ApplyTake new = ApplyTakes old new
  Moves old event new = ⊥

module _ {D : Type 0} where
  -- the link that an event names isn't there
  abbrev pub NamesNoLink : NodeView D → Event → Type 0
  NamesNoLink v (Open l) = slice_get v.links l ≡ None
  NamesNoLink v (Send l bytes) = slice_get v.links l ≡ None
  NamesNoLink v (Close l) = slice_get v.links l ≡ None
  NamesNoLink v (ReaderTake l) = slice_get v.links l ≡ None
  NamesNoLink v (ReaderPut l) = slice_get v.links l ≡ None
  NamesNoLink v (Local command) = ¬ (HasLink v command)
  NamesNoLink v (Drain l) = slice_get v.outboxes l ≡ None
  NamesNoLink v event = ⊥

  -- why an event does nothing
  abbrev pub Refuses : NodeView D → Event → Reply → Type 0
  Refuses v event NoLink = NamesNoLink v event
  Refuses v (Open l) AlreadyOpen = AtLink v l (λ k. k.is_open ≡ true)
  Refuses v (Open l) LivesSpent = AtLink v l (λ k. (k.is_open ≡ false) × (k.life ≡ LIFE_LIMIT))
  Refuses v (Open l) Full = AtLink v l (λ k. (k.is_open ≡ false) × (k.life < LIFE_LIMIT) × is_full k)
  Refuses v (Send l bytes) NotOpen = AtLink v l (λ k. k.is_open ≡ false)
  Refuses v (Send l bytes) Full = AtLink v l (λ k. (k.is_open ≡ true) × is_full k)
  Refuses v (Close l) NotOpen = AtLink v l (λ k. k.is_open ≡ false)
  Refuses v (Close l) Full = AtLink v l (λ k. (k.is_open ≡ true) × is_full k)
  Refuses v (Local command) Full = HasLink v command × (length v.inbox ≡ v.inbox_room)
  Refuses v (ReaderTake l) Blocked = AtLink v l (λ k. k.hand ≢ [])
  Refuses v (ReaderTake l) Idle = AtLink v l (λ k. (k.hand ≡ []) × (k.queue ≡ []))
  Refuses v (ReaderPut l) Idle = AtLink v l (λ k. k.hand ≡ [])
  Refuses v (ReaderPut l) Blocked = AtLink v l (λ k. (k.hand ≢ []) × (length v.inbox ≡ v.inbox_room))
  Refuses v PendTake Blocked = IsSome v.pend_hand
  Refuses v PendTake Idle = (v.pend_hand ≡ None) × (v.inbox ≡ []) × IsIdle v.pending
  Refuses v PendPut Idle = v.pend_hand ≡ None
  Refuses v PendPut Blocked = IsSome v.pend_hand × (length v.ready ≡ v.ready_room)
  Refuses v SlotTake Blocked = IsSome v.slot_hand
  Refuses v SlotTake Idle = (v.slot_hand ≡ None) × (v.ready ≡ [])
  Refuses v SlotPut Idle = v.slot_hand ≡ None
  Refuses v SlotPut Blocked = IsSome v.slot_hand × (length v.decided ≡ v.decided_room)
  Refuses v ApplyTake Idle = v.decided ≡ []
  Refuses v (Drain l) Idle = (o : OutboxView) × (slice_get v.outboxes l ≡ Some o) × GivesNext o None o
  Refuses v event reply = ⊥

-- how often the link was opened
abbrev pub life_of : LinkView → ℕ
life_of k = k.life

module _ {D : Type 0} where
  -- what is left of a node that fails
  pub record Keeps (old new : NodeView D) : Type 0 where
    pub config : new.config ≡ old.config
    pub journal : new.ledger.journal ≡ old.ledger.journal
    pub decisions : new.ledger.decisions ≡ old.ledger.decisions
    pub asked : new.ledger.asked ≡ old.ledger.asked
    pub command : new.last_command ≡ old.last_command
    pub said : new.last_said ≡ old.last_said
    pub applied : new.applier.applied ≡ old.applier.applied
    pub lives : map life_of new.links ≡ map life_of old.links

-- how many items a link's queue can still take
abbrev pub room_in : LinkView → ℕ
room_in k = k.room - length k.queue

-- how many items a link's queue can still take; 0 for a link that isn't there
abbrev pub room_of : Option LinkView → ℕ
room_of None = 0
room_of (Some k) = room_in k

module _ {D : Type 0} where
  -- how many items the queue of the link of this number can still take; 0 if it isn't there
  abbrev pub room_at : NodeView D → ℕ → ℕ
  room_at v l = room_of (slice_get v.links l)

-- how many items wait in a link's queue; 0 for a link that isn't there
abbrev pub queued_in : Option LinkView → ℕ
queued_in None = 0
queued_in (Some k) = length k.queue

module _ {D : Type 0} where
  -- how many items wait in the queue of the link of this number; 0 if it isn't there
  abbrev pub queued_at : NodeView D → ℕ → ℕ
  queued_at v l = queued_in (slice_get v.links l)

-- the front of a link's queue, if there is one; none for a link that isn't there
abbrev pub item_in : Option LinkView → Option LinkItem
item_in None = None
item_in (Some k) = slice_get k.queue 0

module _ {D : Type 0} where
  -- what the reader of the link of this number takes next
  abbrev pub item_at : NodeView D → ℕ → Option LinkItem
  item_at v l = item_in (slice_get v.links l)

-- something is in the hand of a link's reader
abbrev pub has_read : LinkView → Bool
has_read k = is_some (slice_get k.hand 0)

-- the same for a link that may not be there
abbrev pub has_read_in : Option LinkView → Bool
has_read_in None = false
has_read_in (Some k) = has_read k

module _ {D : Type 0} where
  -- something is in the hand of the reader of the link of this number
  abbrev pub has_read_at : NodeView D → ℕ → Bool
  has_read_at v l = has_read_in (slice_get v.links l)

  -- The room of each link after the event that fails a node: what it was, and one more if the link's reader took an item.
  abbrev pub LeavesRoom : NodeView D → Event → NodeView D → Type 0
  LeavesRoom old (ReaderTake l) new = (room_at new l ≡ room_at old l + 1) × ((other : ℕ) → other ≢ l → room_at new other ≡ room_at old other)
  LeavesRoom old event new = (l : ℕ) → room_at new l ≡ room_at old l

  -- an event fails a node that ran; what `Keeps` names stays, and the room of each link is as `LeavesRoom` says
  pub record Fails (old : NodeView D) (event : Event) (new : NodeView D) : Type 0 where
    pub was : old.failed ≡ false
    pub failed : new.failed ≡ true
    pub keeps : Keeps old new
    pub room : LeavesRoom old event new

  -- the front of the ready queue would be entry number 1,000,001
  abbrev pub FillsJournal : NodeView D → Event → Type 0
  FillsJournal v SlotTake = (v.slot_hand ≡ None) × (x : Ready) × (rest : List Ready) × (v.ready ≡ x ∷ rest) × (adds_entry x ≡ true) × (length v.ledger.journal ≡ JOURNAL_LIMIT)
  FillsJournal v event = ⊥

  -- an event that can run out of memory: no other reply fits
  abbrev pub TakesMemory : NodeView D → Event → Type 0
  TakesMemory v (ReaderTake l) = AtLink v l (λ k. (k.hand ≡ []) × (k.queue ≢ []))
  TakesMemory v PendTake = (v.pend_hand ≡ None) × (v.inbox ≢ []) × IsIdle v.pending
  TakesMemory v SlotTake = (v.slot_hand ≡ None) × (v.ready ≢ []) × (¬ (FillsJournal v SlotTake))
  TakesMemory v ApplyTake = v.decided ≢ []
  TakesMemory v (Drain l) = (message : Message) × (boxes : List OutboxView) × GivesThere v.outboxes l (Some message) boxes
  TakesMemory v event = ⊥

module _ {D : Type 0} (says : Says D) where
  -- one event
  abbrev pub Step : NodeView D → Event → Reply → NodeView D → Type 0
  Step old event Failed new = (old.failed ≡ true) × (new ≡ old)
  Step old event Accepted new = (old.failed ≡ false) × Accepts old event new
  Step old event Moved new = (old.failed ≡ false) × Moves says old event new
  Step old event (Sent bytes) new = (old.failed ≡ false) × SendsOut old event bytes new
  Step old event JournalFull new = Fails old event new × FillsJournal old event × (new.fault ≡ Some faults.JournalFull)
  Step old event NoMemory new = Fails old event new × TakesMemory old event × (new.fault ≡ Some faults.NoMemory)
  Step old event reply new = (old.failed ≡ false) × Refuses old event reply × (new ≡ old)

-- why a node failed, after a step with this reply
abbrev pub fault_after : Reply → Option Fault → Option Fault
fault_after JournalFull before = Some faults.JournalFull
fault_after NoMemory before = Some faults.NoMemory
fault_after reply before = before

module _ {D : Type 0} (says : Says D) where
  -- a step leaves why the node failed, or is the one that failed it
  abbrev pub StepsSayWhy : Type 0
  StepsSayWhy = (old new : NodeView D) (event : Event) (reply : Reply) → Step says old event reply new → new.fault ≡ fault_after reply old.fault

-- how often a link was opened; 0 for a link that isn't there
abbrev pub lives_of : Option LinkView → ℕ
lives_of None = 0
lives_of (Some k) = k.life

module _ {D : Type 0} where
  -- how often the link of this number was opened; 0 if it isn't there
  abbrev pub lives_at : NodeView D → ℕ → ℕ
  lives_at v l = lives_of (slice_get v.links l)

-- whether what is sent on a link would be accepted
abbrev pub link_accepts : LinkView → Bool
link_accepts k = k.is_open && nat_lt (length k.queue) k.room

-- whether what is sent on a link would be accepted; never on one that isn't there
abbrev pub accepts_of : Option LinkView → Bool
accepts_of None = false
accepts_of (Some k) = link_accepts k

module _ {D : Type 0} where
  -- the node runs, and the link of this number is there, is open and has room
  abbrev pub accepts_at : NodeView D → ℕ → Bool
  accepts_at v l = if v.failed then false else accepts_of (slice_get v.links l)
