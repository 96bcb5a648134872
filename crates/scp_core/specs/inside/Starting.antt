-- What a new node is, and what one event of a run does; nothing here need be believed.
use Rattle.std.specs.Prelude.{ℕ, ◌≡◌, true, false, List, [], ◌∷◌, ◌++◌, None, length, replicate}
use Rattle.scp_theorem.specs.scp_driver.specs.Driver.{Says}
use Rattle.scp_theorem.specs.scp_pending.specs.Pends.{Pends}
use Rattle.scp_theorem.specs.scp_pending.specs.Rules.{fresh}
use Rattle.scp_theorem.specs.scp_ledger.specs.Ledger.{IsLedger}
use Rattle.scp_theorem.specs.scp_ledger.specs.Runs.{nothing_taken}
use Rattle.scp_theorem.specs.scp_outbox.specs.Handing.{empty_outbox}
use Rattle.scp_theorem.specs.Handed.{nothing_applied}
use Rattle.scp_core.specs.declared.event.Event.{Event}
use Rattle.scp_core.specs.declared.event.Reply.{Reply}
use Rattle.scp_core.specs.Config.{are_apart}
use Rattle.scp_core.specs.History.{Exchange}
use Rattle.scp_core.specs.Theorem.{LedgerTheorem}
use Rattle.scp_theorem.specs.scp_apply.specs.Applies.{Applies}
use Rattle.scp_theorem.specs.scp_ledger.specs.By.{RunsBy}
use Rattle.scp_core.specs.Node.{NodeView, new_link}

module _ {D : Type 0} (says : Says D) where
  pub record IsNew (first : ℕ) (base : List ℕ) (v : NodeView D) : Type 0 where
    pub apart : are_apart v.config.peers ≡ true
    pub runs : v.failed ≡ false
    pub fault : v.fault ≡ None
    pub links : v.links ≡ replicate (length v.config.peers) (new_link v.config.capacities.link)
    pub inbox : (v.inbox ≡ []) × (v.inbox_room ≡ v.config.capacities.inbox)
    pub ready : (v.ready ≡ []) × (v.ready_room ≡ v.config.capacities.ready)
    pub decided : (v.decided ≡ []) × (v.decided_room ≡ v.config.capacities.decided)
    pub hands : (v.pend_hand ≡ None) × (v.slot_hand ≡ None)
    pub settled : v.pending.settled ≡ fresh v.config.me v.config.peers v.config.set
    pub leaving : v.pending.leaving ≡ []
    pub pending : Pends v.config.me v.config.peers [] [] v.pending
    pub ledger : v.ledger ≡ nothing_taken v.config.me v.config.set v.ledger.driver v.config.peers first
    pub known : IsLedger v.ledger
    pub deciding : RunsBy says v.ledger
    pub told : v.last_command ≡ None
    pub said : v.last_said ≡ []
    pub applier : Applies [] v.applier
    pub applier_is : v.applier ≡ nothing_applied first base
    pub outboxes : v.outboxes ≡ replicate (length v.config.peers) empty_outbox

  -- one more event was played, and its reply was added
  pub record Answers (event : Event) (old : NodeView D) (before : List Reply) (new : NodeView D) (after' : List Reply) : Type 0 where
    pub reply : Reply
    pub added : after' ≡ before ++ reply ∷ []
    pub theorem : (past : List Exchange) → LedgerTheorem says past old → LedgerTheorem says (past ++ (event, reply) ∷ []) new
