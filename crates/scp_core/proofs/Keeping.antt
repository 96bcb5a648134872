-- The ledger theorem in one record, of a node that runs and of one that failed.
use Rattle.std.proofs.Common.{◌≡◌, ℕ, true, false, List, ◌++◌, refl, sym, ◌∙◌, ap, subst, inl, inr, None}
use Rattle.std.specs.Prelude.{flat_map}
use Rattle.std.specs.List.{AllZip}
use Rattle.scp_theorem.specs.scp_driver.specs.Driver.{Says}
use Rattle.scp_theorem.specs.scp_wire.specs.declared.link.Inbound.{Inbound}
use Rattle.scp_theorem.specs.scp_wire.specs.Message.{message_value, SpellsMessage}
use Rattle.scp_theorem.specs.Kept.{KeepsLedger}
use Rattle.scp_theorem.specs.Grounds.{IsSentOut}
use Rattle.scp_core.specs.declared.config.Config.{Config}
use Rattle.scp_core.specs.Flow.{Flows}
use Rattle.scp_core.specs.Handed.{WentOut, given_over}
use Rattle.scp_core.specs.History.{Exchange, past_of, nothing_heard}
use Rattle.scp_core.specs.Ledger.{account_of, HoldsLedgerFrom, TheoremGivesLedgerFrom}
use Rattle.scp_core.specs.Node.{NodeView}
use Rattle.scp_core.specs.Sent.{grounds_of, sent_to}
use Rattle.scp_core.specs.Theorem.{begun, AreSteps, LedgerTheoremFrom}
use Rattle.scp_core.proofs.Accounting.{kept_at}
use Rattle.scp_core.proofs.StageLaws.{Laws}
use Rattle.scp_core.proofs.Failing.{Failure, failure_of, which}
use Rattle.scp_core.proofs.Holding.{Began}
use Rattle.scp_core.proofs.grounds.All.{sent_at, sent_before}
use Rattle.scp_core.proofs.grounds.Whole.{went_out}

module _ {D : Type 0} (says : Says D) (first : ℕ) (base : List ℕ) where
  -- of a node that runs
  record Kept (past : List Exchange) (v : NodeView D) : Type 0 where
    came : List Inbound
    came_is : (past_of v.config past).came ≡ came ++ v.inbox
    began : (v.ledger.first ≡ first) × (v.applier.base ≡ base)
    keeps : KeepsLedger says.level says.extracted says.combined says.place (account_of past v came)
    sent : (link : ℕ) → IsSentOut (grounds_of v came) link (sent_to link past)
    out : WentOut says (account_of past v came) (λ link. sent_to link past) v.outboxes

  kept : Laws says → (past : List Exchange) (v : NodeView D) → LedgerTheoremFrom says first base past v → v.failed ≡ false → Kept past v
  kept law past v h runs =
      let f : Flows says (past_of v.config past) v = subst (λ (w : NodeView D). Flows says (past_of v.config past) w) (sym (h.now runs)) h.flows in
      let b : Began first base v = subst (λ (w : NodeView D). Began first base w) (sym (h.now runs)) h.began in
      record {
        came = f.arrived;
        came_is = f.inbox;
        began = (sym f.first ∙ b.0, b.1);
        keeps = kept_at says law (past_of v.config past) v f;
        sent = sent_at says first base law past v h f;
        out = went_out says first base law past v h f;
      }

  of_running : Laws says → (past : List Exchange) (v : NodeView D) → LedgerTheoremFrom says first base past v → v.failed ≡ false → HoldsLedgerFrom says first base past v
  of_running law past v h runs =
      let k = kept law past v h runs in
      record {
        earlier = past;
        moment = v;
        runs = runs;
        is = inl (runs, refl, refl);
        driver = h.driver;
        steps = h.replies;
        first = k.began.0;
        base = k.began.1;
        came = k.came;
        came_is = k.came_is;
        keeps = k.keeps;
        sent = k.sent;
        out = k.out;
      }

  of_failed : Laws says → (past : List Exchange) (v : NodeView D) → v.failed ≡ true → Failure says first base past v → HoldsLedgerFrom says first base past v
  of_failed law past v failed x =
      let k = kept law x.earlier x.moment x.theorem x.fails.was in
      let left = x.fails.keeps in
      let quiet : (link : ℕ) → sent_to link past ≡ sent_to link x.earlier = λ link. ap (sent_to link) x.is ∙ sent_before link x.earlier x.later x.event x.reply x.reply_fails x.silent_then in
      record {
        earlier = x.earlier;
        moment = x.moment;
        runs = x.fails.was;
        is = inr (record { failed = failed; event = x.event; reply = x.reply; fails = x.reply_fails; step = x.step; later = x.later; past_is = x.is; silent = x.silent_then; keeps = left });
        driver = x.theorem.driver;
        steps = subst (λ (c : Config). AreSteps says c nothing_heard (begun x.theorem.driver c first base) x.earlier x.moment) (sym left.config) x.theorem.replies;
        first = k.began.0;
        base = k.began.1;
        came = k.came;
        came_is = ap (λ (c : Config). (past_of c x.earlier).came) left.config ∙ k.came_is;
        keeps = k.keeps;
        sent = λ link. subst (λ (bytes : List (List ℕ)). IsSentOut (grounds_of x.moment k.came) link bytes) (sym (quiet link)) (k.sent link);
        out = record {
          moves = k.out.moves;
          handed = k.out.handed;
          moved = k.out.moved;
          spelt = λ link. subst (λ (bytes : List (List ℕ)). AllZip (λ bs m. SpellsMessage bs (message_value m)) bytes (flat_map (given_over link) k.out.moves)) (sym (quiet link)) (k.out.spelt link);
        };
      }

  pub theorem_gives_ledger : Laws says → TheoremGivesLedgerFrom says first base
  theorem_gives_ledger law = λ past v h. elim (which v.failed) [
    | inl failed ↦ of_failed law past v failed (failure_of says first base past v h failed)
    | inr runs ↦ of_running law past v h runs
  ]
