-- What each step hands out for the links, and what a drain gives.
use Rattle.std.specs.Prelude.{ℕ, ◌≡◌, ◌≢◌, ◌⊎◌, false, List, [], ◌∷◌, Some, None, IfSome, length, flat_map, replicate, nat_eq, if◌then◌else◌, slice_get}
use Rattle.std.specs.List.{AllZip}
use Rattle.scp_theorem.specs.scp_driver.specs.Driver.{Says}
use Rattle.scp_theorem.specs.scp_types.specs.declared.names.NodeId.{NodeId}
use Rattle.scp_theorem.specs.scp_wire.specs.declared.link.Inbound.{Inbound}
use Rattle.scp_theorem.specs.scp_wire.specs.declared.message.Message.{Message}
use Rattle.scp_theorem.specs.scp_wire.specs.Message.{message_value, SpellsMessage}
use Rattle.scp_theorem.specs.scp_wire.specs.Fitting.{IsFitting}
use Rattle.scp_theorem.specs.scp_outbox.specs.Outbox.{OutboxView}
use Rattle.scp_theorem.specs.scp_outbox.specs.Handing.{GivesThere, empty_outbox}
use Rattle.scp_theorem.specs.scp_ledger.specs.declared.took.Outgoing.{Outgoing}
use Rattle.scp_theorem.specs.scp_pending.specs.declared.ready.Ready.{Ready}
use Rattle.scp_theorem.specs.scp_pending.specs.Pends.{Pends}
use Rattle.scp_theorem.specs.scp_pending.specs.Rules.{PendingView, reply as reply_to}
use Rattle.scp_theorem.specs.Account.{Account}
use Rattle.scp_theorem.specs.Handed.{out_of}
use Rattle.scp_theorem.specs.Laws.{AreHandedOut}
use Rattle.scp_core.specs.declared.event.Event.{Event}
use Rattle.scp_core.specs.declared.event.Event.TheVariants.{PendTake, SlotTake, ApplyTake, Drain}
use Rattle.scp_core.specs.declared.event.Reply.{Reply}
use Rattle.scp_core.specs.declared.event.Reply.TheVariants.{Moved, Idle, Sent, NoLink, NoMemory}
use Rattle.scp_core.specs.Node.{NodeView, Step, HandsEach, PendBrings, PendTakes, SlotTakes, ApplyTakes}

-- ---- what a step hands out

module _ {D : Type 0} where
  -- the pending stage hands out its reply to the item that it takes, and nothing if it only brings what is ready
  abbrev pub PendHands : NodeView D → List Outgoing → NodeView D → Type 0
  PendHands old handed new = (PendBrings old new × (handed ≡ [])) ⊎ ((takes : PendTakes old new) × (handed ≡ out_of (reply_to old.pending.settled takes.x)))

module _ {D : Type 0} (says : Says D) where
  -- the slot stage hands out what its ledger gives
  abbrev pub SlotHands : NodeView D → List Outgoing → NodeView D → Type 0
  SlotHands old handed new = (takes : SlotTakes says old new) × (handed ≡ takes.took.outgoing)

module _ {D : Type 0} where
  -- the applier hands out its answer
  abbrev pub ApplyHands : NodeView D → List Outgoing → NodeView D → Type 0
  ApplyHands old handed new = (takes : ApplyTakes old new) × (handed ≡ out_of takes.answer)

module _ {D : Type 0} (says : Says D) where
  -- what the stage of a step that moves something hands out, in order
  abbrev pub HandedAt : NodeView D → Event → List Outgoing → NodeView D → Type 0
  HandedAt old PendTake handed new = PendHands old handed new
  HandedAt old SlotTake handed new = SlotHands says old handed new
  HandedAt old ApplyTake handed new = ApplyHands old handed new
  HandedAt old event handed new = handed ≡ []

  -- each step puts all that its stage hands out into the outboxes of its links, in order
  abbrev pub StepsPutAll : Type 0
  StepsPutAll = (old new : NodeView D) (event : Event) → Step says old event Moved new → (handed : List Outgoing) × HandedAt old event handed new × HandsEach old.outboxes handed new.outboxes

-- ---- what a drain gives

-- the bytes of what is next in the link's outbox; Idle if nothing is next; NoLink if the link isn't there
abbrev pub IsDrained : List OutboxView → ℕ → Reply → List OutboxView → Type 0
IsDrained old link (Sent bytes) new = (message : Message) × GivesThere old link (Some message) new × SpellsMessage bytes (message_value message)
IsDrained old link Idle new = GivesThere old link None new
IsDrained old link NoLink new = (slice_get old link ≡ None) × (new ≡ old)
IsDrained old link reply new = ⊥

module _ {D : Type 0} (says : Says D) where
  -- a drain of a running node answers so, or runs out of memory
  abbrev pub DrainsGiveNext : Type 0
  DrainsGiveNext = (old new : NodeView D) (link : ℕ) (reply : Reply) → old.failed ≡ false → Step says old (Drain link) reply new → reply ≢ NoMemory → IsDrained old.outboxes link reply new.outboxes

-- ---- all that went out since the node was made

-- A move at a node's outboxes. Its pending stage, its slot stage or its applier put what it handed out in a step; or the outbox of a link gave a
-- message.
pub data Move : Type 0 where
  replied : List Outgoing → Move
  said : List Outgoing → Move
  answered : List Outgoing → Move
  gave : ℕ → Message → Move

-- what the pending stage handed out
abbrev pub replies_in : Move → List Outgoing
replies_in (replied out) = out
replies_in (said out) = []
replies_in (answered out) = []
replies_in (gave l message) = []

-- what the slot stage handed out
abbrev pub sayings_in : Move → List Outgoing
sayings_in (replied out) = []
sayings_in (said out) = out
sayings_in (answered out) = []
sayings_in (gave l message) = []

-- what the applier handed out
abbrev pub answers_in : Move → List Outgoing
answers_in (replied out) = []
answers_in (said out) = []
answers_in (answered out) = out
answers_in (gave l message) = []

-- what the outbox of this link gave
abbrev pub given_over : ℕ → Move → List Message
given_over link (replied out) = []
given_over link (said out) = []
given_over link (answered out) = []
given_over link (gave l message) = if nat_eq l link then message ∷ [] else []

-- what a move makes of the outboxes
abbrev pub MovesOne : List OutboxView → Move → List OutboxView → Type 0
MovesOne old (replied out) new = HandsEach old out new
MovesOne old (said out) new = HandsEach old out new
MovesOne old (answered out) new = HandsEach old out new
MovesOne old (gave l message) new = GivesThere old l (Some message) new

-- each move was made at the outboxes that the one before it left
abbrev pub MovesEach : List OutboxView → List Move → List OutboxView → Type 0
MovesEach old [] new = new ≡ old
MovesEach old (move ∷ moves) new = (between : List OutboxView) × MovesOne old move between × MovesEach between moves new

module _ {D : Type 0} (says : Says D) where
  -- All that went out of a node with this account. Its stages put into its outboxes, which were empty, exactly what they handed out, each in its
  -- order. What was sent over a link is exactly what the link's outbox gave, in order.
  pub record WentOut (a : Account D) (sent : ℕ → List (List ℕ)) (outboxes : List OutboxView) : Type 0 where
    pub moves : List Move
    pub handed : AreHandedOut says a (flat_map replies_in moves) (flat_map sayings_in moves) (flat_map answers_in moves)
    pub moved : MovesEach (replicate (length a.peers) empty_outbox) moves outboxes
    pub spelt : (link : ℕ) → AllZip (λ bytes m. SpellsMessage bytes (message_value m)) (sent link) (flat_map (given_over link) moves)

-- ---- why nothing is left out

-- whatever the pending stage replies fits a link
abbrev pub RepliesFit : Type 0
RepliesFit = (me : NodeId) (peers : List NodeId) (taken : List Inbound) (given : List Ready) (v : PendingView) → Pends me peers taken given v → (item : Inbound) → IfSome (reply_to v.settled item) (λ sent. IsFitting sent.1)
