-- What is the same if the same events came.
use Rattle.std.specs.Prelude.{ℕ, ◌≡◌, ◌≢◌, false, List, [], Option, Some, None, map}
use Rattle.std.specs.List.{AllByRecursion}
use Rattle.scp_theorem.specs.scp_driver.specs.Driver.{Says}
use Rattle.scp_theorem.specs.scp_types.specs.declared.names.NodeId.{NodeId}
use Rattle.scp_theorem.specs.scp_vote.specs.declared.claim.StatementKind.{StatementKind}
use Rattle.scp_theorem.specs.scp_slot.specs.Slot.{SlotView, slot_view, driver_of}
use Rattle.scp_theorem.specs.scp_slot.specs.declared.machine.SlotMachine.{SlotMachine}
use Rattle.scp_theorem.specs.scp_ledger.specs.declared.journal.Asking.{Asking}
use Rattle.scp_theorem.specs.scp_ledger.specs.declared.journal.Fate.{Fate}
use Rattle.scp_theorem.specs.scp_ledger.specs.declared.journal.Verdict.{Verdict}
use Rattle.scp_theorem.specs.scp_ledger.specs.Journals.{Entry, entry_in}
use Rattle.scp_theorem.specs.scp_ledger.specs.Ledger.{heard_at}
use Rattle.scp_theorem.specs.scp_ledger.specs.Runs.{verdict_in}
use Rattle.scp_theorem.specs.scp_ledger.specs.Seen.{LedgerView, machine_at, is_asked}
use Rattle.scp_theorem.specs.scp_apply.specs.Laws.{ShowTheSame}
use Rattle.scp_core.specs.declared.event.Event.{Event}
use Rattle.scp_core.specs.declared.event.Reply.TheVariants.{NoMemory}
use Rattle.scp_core.specs.History.{Exchange}
use Rattle.scp_core.specs.Node.{NodeView, life_of, room_at}
use Rattle.scp_core.specs.Theorem.{LedgerTheoremFrom}

-- Two machines of a slot show the same: nomination and ballots, the newest statements with their sets, and
-- whether they decided. A set may be at different places in memory.
pub record ShowSameSlot (v w : SlotView) : Type 0 where
  pub me : v.me ≡ w.me
  pub slot : v.slot ≡ w.slot
  pub nomination : v.nomination ≡ w.nomination
  pub ballots : v.ballots ≡ w.ballots
  pub heard : (kind : StatementKind) (node : NodeId) → heard_at kind v node ≡ heard_at kind w node
  pub decided : v.decided ≡ w.decided
  pub more : v.more ≡ w.more

-- both machines are there and show the same, or neither is there
abbrev pub ShowSameMachine : {D : Type 0} → Option (SlotMachine D) → Option (SlotMachine D) → Type 0
ShowSameMachine None None = Unit {0}
ShowSameMachine None (Some n) = ⊥
ShowSameMachine (Some m) None = ⊥
ShowSameMachine (Some m) (Some n) = (driver_of m ≡ driver_of n) × ShowSameSlot (slot_view m) (slot_view n)

-- what an entry of the journal says: its message with its quorum set, or how it ended, and its verdict
abbrev pub said : Fate → Entry × List Verdict
said fate = (entry_in fate, verdict_in fate)

-- Two ledgers show the same. Their journals say the same, entry by entry; they have the same decisions and asked the same links; and the
-- machine of each slot shows the same.
pub record ShowSameLedger {D : Type 0} (v w : LedgerView D) : Type 0 where
  pub me : v.me ≡ w.me
  pub local : v.local ≡ w.local
  pub driver : v.driver ≡ w.driver
  pub peers : v.peers ≡ w.peers
  pub first : v.first ≡ w.first
  pub failed : v.failed ≡ w.failed
  pub journal : map said v.journal ≡ map said w.journal
  pub decisions : v.decisions ≡ w.decisions
  pub lowest : v.lowest ≡ w.lowest
  pub asked : (asking : Asking) → is_asked v.asked asking ≡ is_asked w.asked asking
  pub machines : (slot : ℕ) → ShowSameMachine (machine_at v.machines slot) (machine_at w.machines slot)

-- ---- nodes

module _ {D : Type 0} where
  -- Two nodes that run show the same: all that they hold is the same. Of the ledger this is what is
  -- seen of it, and the applier's buffer may be in another order.
  pub record RunAlike (v w : NodeView D) : Type 0 where
    pub links : v.links ≡ w.links
    pub inbox : (v.inbox ≡ w.inbox) × (v.inbox_room ≡ w.inbox_room)
    pub pending : v.pending ≡ w.pending
    pub ready : (v.ready ≡ w.ready) × (v.ready_room ≡ w.ready_room) × (v.pend_hand ≡ w.pend_hand)
    pub ledger : ShowSameLedger v.ledger w.ledger
    pub last_command : v.last_command ≡ w.last_command
    pub last_said : v.last_said ≡ w.last_said
    pub decided : (v.decided ≡ w.decided) × (v.decided_room ≡ w.decided_room) × (v.slot_hand ≡ w.slot_hand)
    pub applier : ShowTheSame v.applier w.applier
    pub outboxes : v.outboxes ≡ w.outboxes

  -- Two nodes show the same: failed nodes in what they keep, and running nodes in everything.
  pub record ShowSameNode (v w : NodeView D) : Type 0 where
    pub config : v.config ≡ w.config
    pub failed : v.failed ≡ w.failed
    pub journal : map said v.ledger.journal ≡ map said w.ledger.journal
    pub decisions : v.ledger.decisions ≡ w.ledger.decisions
    pub applied : v.applier.applied ≡ w.applier.applied
    pub last_command : v.last_command ≡ w.last_command
    pub last_said : v.last_said ≡ w.last_said
    pub lives : map life_of v.links ≡ map life_of w.links
    pub rooms : (link : ℕ) → room_at v link ≡ room_at w link
    pub running : v.failed ≡ false → RunAlike v w

-- ---- the law

-- the event of an exchange
abbrev pub event_of : Exchange → Event
event_of exchange = exchange.0

-- no step ran out of memory
abbrev pub NoneLackedMemory : List Exchange → Type 0
NoneLackedMemory exchanges = AllByRecursion (λ exchange. exchange.1 ≢ NoMemory) exchanges

module _ {D : Type 0} (says : Says D) where
  -- The same events give the same replies, journal, decisions, applied list and state. Take two lists of exchanges with one application, one
  -- configuration, one beginning and the same events, in which no step ran out of memory. They are one list, and the nodes that they left show
  -- the same.
  abbrev pub SameEventsSameRepliesFrom : ℕ → List ℕ → Type 0
  SameEventsSameRepliesFrom first base =
      (one other : List Exchange) (v w : NodeView D) → (h : LedgerTheoremFrom says first base one v) → (k : LedgerTheoremFrom says first base other w) → h.driver ≡ k.driver → v.config ≡ w.config → map event_of one ≡ map event_of other → NoneLackedMemory one → NoneLackedMemory other → (one ≡ other) × ShowSameNode v w

  -- the same from slot 1, and from the application's first state
  abbrev pub SameEventsSameReplies : Type 0
  SameEventsSameReplies = SameEventsSameRepliesFrom 1 []
