-- The ledger theorem of a node in one record: of a node that runs, and of one that failed.
use Rattle.std.specs.Prelude.{ℕ, ◌≡◌, true, false, List, [], ◌∷◌, ◌++◌, ◌⊎◌, Option, Some, None, slice_get, option_to_list}
use Rattle.std.specs.List.{AllByRecursion}
use Rattle.scp_theorem.specs.scp_driver.specs.Driver.{Says}
use Rattle.scp_theorem.specs.scp_wire.specs.declared.link.Inbound.{Inbound}
use Rattle.scp_theorem.specs.scp_wire.specs.LinkReading.{readings}
use Rattle.scp_theorem.specs.Account.{Account}
use Rattle.scp_theorem.specs.Kept.{KeepsLedger}
use Rattle.scp_theorem.specs.Grounds.{IsSentOut}
use Rattle.scp_core.specs.declared.event.Event.{Event}
use Rattle.scp_core.specs.declared.event.Reply.{Reply}
use Rattle.scp_core.specs.declared.event.Reply.TheVariants.{Failed, JournalFull, NoMemory}
use Rattle.scp_core.specs.Handed.{WentOut}
use Rattle.scp_core.specs.History.{Exchange, past_of, nothing_heard}
use Rattle.scp_core.specs.Node.{LinkView, NodeView, Step, Keeps}
use Rattle.scp_core.specs.Sent.{grounds_of, sent_to}
use Rattle.scp_core.specs.Theorem.{begun, AreSteps, LedgerTheoremFrom}

-- ---- where everything is

-- what a link still holds: what its reader has in its hand, and then what its queue is read as
abbrev pub upcoming_of : Option LinkView → List Inbound
upcoming_of None = []
upcoming_of (Some k) = k.hand ++ readings k.reader k.queue

module _ {D : Type 0} where
  -- what was sent to the node, where it is, and what the node's stages made of it
  abbrev pub account_of : List Exchange → NodeView D → List Inbound → Account D
  account_of past v came = record {
    me = v.config.me;
    set = v.config.set;
    peers = v.config.peers;
    sent = λ l. ((past_of v.config past).links l).items;
    upcoming = λ l. upcoming_of (slice_get v.links l);
    inbox = v.inbox;
    came = came;
    pending = v.pending;
    on_way = v.ready ++ option_to_list v.pend_hand;
    ledger = v.ledger;
    onward = v.decided ++ option_to_list v.slot_hand;
    applier = v.applier;
  }

-- ---- a node that failed

-- a reply that says that the node failed
abbrev pub IsFailure : Reply → Type 0
IsFailure NoMemory = Unit {0}
IsFailure JournalFull = Unit {0}
IsFailure reply = ⊥

module _ {D : Type 0} (says : Says D) where
  -- it failed at the exchange after these, by a step from what it was then, has answered Failed ever since, and keeps what it shows
  pub record FailedAfter (past earlier : List Exchange) (v moment : NodeView D) : Type 0 where
    pub failed : v.failed ≡ true
    pub event : Event
    pub reply : Reply
    pub fails : IsFailure reply
    pub step : Step says moment event reply v
    pub later : List Exchange
    pub past_is : past ≡ earlier ++ (event, reply) ∷ later
    pub silent : AllByRecursion (λ x. x.1 ≡ Failed) later
    pub keeps : Keeps moment v

  -- ---- the ledger theorem

  -- The ledger theorem of a node that began with this first slot, and with the state that these bytes say. These exchanges led to a moment, step
  -- by step from the node as it began, and `KeepsLedger` holds of what was sent to the node by then. That moment is the node; or, if the node
  -- failed, what it was before the step that failed it.
  pub record HoldsLedgerFrom (slot : ℕ) (bytes : List ℕ) (past : List Exchange) (v : NodeView D) : Type 0 where
    -- the exchanges and the node, as they are; of a node that failed, as they were before the step that failed it
    pub earlier : List Exchange
    pub moment : NodeView D
    pub runs : moment.failed ≡ false
    pub is : ((v.failed ≡ false) × (earlier ≡ past) × (moment ≡ v)) ⊎ FailedAfter past earlier v moment
    -- these exchanges led to that, step by step, from the node as it began, with its application
    pub driver : D
    pub steps : AreSteps says v.config nothing_heard (begun driver v.config slot bytes) earlier moment
    -- its slot stage and its applier began with this slot, and its applier with these bytes
    pub first : moment.ledger.first ≡ slot
    pub base : moment.applier.base ≡ bytes
    -- what came to the pending stage: all that was put into the inbox, except what waits there
    pub came : List Inbound
    pub came_is : (past_of v.config earlier).came ≡ came ++ moment.inbox
    -- each message has at most one fate, each fate and each verdict has its cause, and each decision has what it rests on
    pub keeps : KeepsLedger says.level says.extracted says.combined says.place (account_of earlier moment came)
    -- all that was sent to each peer has its reason, and is exactly what the outboxes gave of exactly what the stages handed out
    pub sent : (link : ℕ) → IsSentOut (grounds_of moment came) link (sent_to link past)
    pub out : WentOut says (account_of earlier moment came) (λ link. sent_to link past) moment.outboxes

  -- the same of a node that began with slot 1, and with the application's first state
  abbrev pub HoldsLedger : List Exchange → NodeView D → Type 0
  HoldsLedger past v = HoldsLedgerFrom 1 [] past v

  -- `HoldsLedgerFrom` follows from `LedgerTheoremFrom`
  abbrev pub TheoremGivesLedgerFrom : ℕ → List ℕ → Type 0
  TheoremGivesLedgerFrom first base = (past : List Exchange) (v : NodeView D) → LedgerTheoremFrom says first base past v → HoldsLedgerFrom first base past v

  -- `HoldsLedger` follows from `LedgerTheorem`
  abbrev pub TheoremGivesLedger : Type 0
  TheoremGivesLedger = TheoremGivesLedgerFrom 1 []
