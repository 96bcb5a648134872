-- Where the pending stage is idle.
use Rattle.std.proofs.Common.{◌≡◌, ◌++◌, ◌∙◌, ap, subst}
use Rattle.std.proofs.lemmas.List.{append-nil}
use Rattle.scp_theorem.specs.scp_driver.specs.Driver.{Says}
use Rattle.scp_theorem.specs.scp_quorum.specs.QuorumTree.{QuorumTree}
use Rattle.scp_theorem.specs.scp_pending.specs.Causes.{IsSettledBy}
use Rattle.scp_theorem.specs.scp_pending.specs.Pends.{IsSettled, start_of as started}
use Rattle.scp_theorem.specs.scp_pending.specs.Rules.{Settled, fresh, settled_by}
use Rattle.scp_theorem.specs.Grounds.{start_of}
use Rattle.scp_core.specs.declared.config.Config.{Config}
use Rattle.scp_core.specs.declared.event.Event.TheVariants.{PendTake}
use Rattle.scp_core.specs.declared.event.Reply.TheVariants.{Idle}
use Rattle.scp_core.specs.Flow.{Flows}
use Rattle.scp_core.specs.History.{Past}
use Rattle.scp_core.specs.Node.{NodeView, Step}
use Rattle.scp_core.specs.Sent.{who_of}
use Rattle.scp_core.specs.Settled.{IsSettledAt, IdleIsSettled}

module _ {D : Type 0} (says : Says D) where
  -- the pending stage is of the node's own quorum set
  pub start_is : (p : Past) (v : NodeView D) → Flows says p v → started v.config.me v.config.peers v.pending ≡ start_of (who_of v.config)
  start_is p v f = ap (λ (set : QuorumTree). fresh v.config.me v.config.peers set) f.local

  settled_at : (p : Past) (v w : NodeView D) → Flows says p v → Step says v PendTake Idle w → IsSettledAt v.config p v.pending
  settled_at p v w f s =
      let came : p.came ≡ f.arrived = f.inbox ∙ ap (λ xs. f.arrived ++ xs) s.1.1 ∙ append-nil f.arrived in
      let idle : IsSettled v.config.me v.config.peers f.arrived v.pending = s.1.2 v.config.me v.config.peers f.arrived f.given f.pending in
      record {
        by_rules = rw came (f.pending.settled ∙ ap (λ (start : Settled). settled_by start f.arrived) (start_is p v f));
        settled = rw came (subst (λ (start : Settled). IsSettledBy start f.arrived v.pending) (start_is p v f) idle);
      }

  pub idle_is_settled : IdleIsSettled says
  idle_is_settled = λ c p before after' w. subst (λ (d : Config). IsSettledAt d p before.pending) w.config (settled_at p before after' w.flows w.step)
