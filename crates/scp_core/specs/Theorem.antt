-- The ledger theorem: what holds of every list of events, their replies, and the node that they left.
use Rattle.std.specs.Prelude.{ℕ, ◌≡◌, true, false, List, [], ◌∷◌, ◌++◌, ◌⊎◌, None, length, replicate}
use Rattle.scp_theorem.specs.scp_driver.specs.Driver.{Says}
use Rattle.scp_theorem.specs.scp_outbox.specs.Handing.{empty_outbox}
use Rattle.scp_theorem.specs.scp_pending.specs.Rules.{fresh}
use Rattle.scp_theorem.specs.scp_ledger.specs.Runs.{nothing_taken}
use Rattle.scp_theorem.specs.Handed.{nothing_applied}
use Rattle.scp_core.specs.declared.config.Config.{Config}
use Rattle.scp_core.specs.declared.event.Event.{Event}
use Rattle.scp_core.specs.declared.event.Reply.{Reply}
use Rattle.scp_core.specs.declared.event.Reply.TheVariants.{Failed}
use Rattle.scp_core.specs.History.{Exchange, Past, hears, past_of, nothing_heard}
use Rattle.scp_core.specs.Node.{NodeView, Step, Keeps, new_link}
use Rattle.scp_core.specs.Flow.{Flows}

module _ {D : Type 0} where
  -- The node of an application and a configuration as it begins with a first slot, and with the state that these bytes say: it runs, no link was
  -- open, and its stages, queues, hands and outboxes hold nothing.
  abbrev pub begun : D → Config → ℕ → List ℕ → NodeView D
  begun driver c first base = record {
    config = c;
    failed = false;
    fault = None;
    links = replicate (length c.peers) (new_link c.capacities.link);
    inbox = [];
    inbox_room = c.capacities.inbox;
    pending = record { failed = false; settled = fresh c.me c.peers c.set; leaving = [] };
    pend_hand = None;
    ready = [];
    ready_room = c.capacities.ready;
    ledger = nothing_taken c.me c.set driver c.peers first;
    slot_hand = None;
    last_command = None;
    last_said = [];
    decided = [];
    decided_room = c.capacities.decided;
    applier = nothing_applied first base;
    outboxes = replicate (length c.peers) empty_outbox;
  }

  -- the node as it is made: it begins with slot 1, and with the application's first state
  abbrev pub made : D → Config → NodeView D
  made driver c = begun driver c 1 []

module _ {D : Type 0} (says : Says D) where
  -- the exchange was a step from a node of this configuration that fits its past as `Flows` says
  pub record WasStep (c : Config) (p : Past) (before : NodeView D) (event : Event) (reply : Reply) (after' : NodeView D) : Type 0 where
    pub config : before.config ≡ c
    pub flows : Flows says p before
    pub step : Step says before event reply after'

  -- once the node failed, every reply is Failed and nothing changes
  abbrev pub IsReply : Config → Past → NodeView D → Event → Reply → NodeView D → Type 0
  IsReply c p before event reply after' = ((p.failed ≡ true) × (reply ≡ Failed) × (after' ≡ before)) ⊎ ((p.failed ≡ false) × WasStep c p before event reply after')

  -- each exchange was so, from the node that the one before it left
  abbrev pub AreSteps : Config → Past → NodeView D → List Exchange → NodeView D → Type 0
  AreSteps c p v [] last = last ≡ v
  AreSteps c p v (x ∷ xs) last = (next : NodeView D) × IsReply c p v x.0 x.1 next × AreSteps c (hears c p x.0 x.1) next xs last

  -- Each exchange was a step by the table of replies, from the node as it begins with this first slot and the state that these bytes say. The
  -- node is as `Flows` says, or keeps what is left of one that was so when it failed.
  pub record LedgerTheoremFrom (first : ℕ) (base : List ℕ) (past : List Exchange) (v : NodeView D) : Type 0 where
    -- the application that the node was made with, and every step from the node as it begins
    pub driver : D
    pub replies : AreSteps v.config nothing_heard (begun driver v.config first base) past v
    pub failed : v.failed ≡ (past_of v.config past).failed
    -- the node, or what it was when it failed
    pub moment : NodeView D
    pub began : (moment.applier.first ≡ first) × (moment.applier.base ≡ base)
    pub flows : Flows says (past_of v.config past) moment
    pub now : v.failed ≡ false → v ≡ moment
    pub keeps : Keeps moment v

  -- the same of the node as it is made: from slot 1, and from the application's first state
  abbrev pub LedgerTheorem : List Exchange → NodeView D → Type 0
  LedgerTheorem past v = LedgerTheoremFrom 1 [] past v

  -- what holds of a list of exchanges holds of the list with one more step
  abbrev pub StepsKeepFrom : ℕ → List ℕ → Type 0
  StepsKeepFrom first base = (past : List Exchange) (old new : NodeView D) (event : Event) (reply : Reply) → Step says old event reply new → LedgerTheoremFrom first base past old → LedgerTheoremFrom first base (past ++ (event, reply) ∷ []) new

  -- the same from slot 1, and from the application's first state
  abbrev pub StepsKeep : Type 0
  StepsKeep = StepsKeepFrom 1 []
