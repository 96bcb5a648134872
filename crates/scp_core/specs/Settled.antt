-- When the pending stage answers Idle, all that it holds waits rightly.
use Rattle.std.specs.Prelude.{◌≡◌}
use Rattle.scp_theorem.specs.scp_driver.specs.Driver.{Says}
use Rattle.scp_theorem.specs.scp_pending.specs.Rules.{PendingView, settled_by}
use Rattle.scp_theorem.specs.scp_pending.specs.Causes.{IsSettledBy}
use Rattle.scp_theorem.specs.Grounds.{start_of}
use Rattle.scp_core.specs.declared.config.Config.{Config}
use Rattle.scp_core.specs.declared.event.Event.TheVariants.{PendTake}
use Rattle.scp_core.specs.declared.event.Reply.TheVariants.{Idle}
use Rattle.scp_core.specs.History.{Past}
use Rattle.scp_core.specs.Node.{NodeView}
use Rattle.scp_core.specs.Sent.{who_of}
use Rattle.scp_core.specs.Theorem.{WasStep}

-- the pending stage is what the rules make of all that came; nothing is ready, and the head of each lane is an envelope that
-- waits for its quorum set
pub record IsSettledAt (c : Config) (p : Past) (pending : PendingView) : Type 0 where
  pub by_rules : pending.settled ≡ settled_by (start_of (who_of c)) p.came
  pub settled : IsSettledBy (start_of (who_of c)) p.came pending

module _ {D : Type 0} (says : Says D) where
  -- if PendTake answers Idle, nothing is ready, and the head of each lane of the pending stage is an envelope that waits
  abbrev pub IdleIsSettled : Type 0
  IdleIsSettled = (c : Config) (p : Past) (before after' : NodeView D) → WasStep says c p before PendTake Idle after' → IsSettledAt c p before.pending
