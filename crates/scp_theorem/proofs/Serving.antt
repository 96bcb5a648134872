-- What a slot stage and an applier took, one thing after another: with one thing more, and what their own contracts say of all of it.
use Rattle.std.proofs.Common.{◌≡◌, List, [], ◌∷◌, ◌++◌, refl, sym, ◌∙◌, ap, subst, append-nil, append_assoc}
use Rattle.std.specs.Prelude.{ℕ, Option, option_to_list}
use Rattle.scp_apply.specs.scp_driver.specs.Driver.{Says}
use Rattle.scp_outbox.specs.scp_types.specs.declared.names.NodeId.{NodeId}
use Rattle.scp_outbox.specs.scp_quorum.specs.QuorumTree.{QuorumTree}
use Rattle.scp_outbox.specs.scp_wire.specs.declared.message.Message.{Message}
use Rattle.scp_apply.specs.scp_pending.specs.declared.ready.Ready.{Ready}
use Rattle.scp_apply.specs.scp_ledger.specs.declared.took.Onward.{Onward}
use Rattle.scp_apply.specs.scp_ledger.specs.declared.took.Outgoing.{Outgoing}
use Rattle.scp_apply.specs.scp_ledger.specs.By.{JournalsBy}
use Rattle.scp_apply.specs.scp_ledger.specs.Journals.{JournalsPass}
use Rattle.scp_apply.specs.scp_ledger.specs.Runs.{Taking, things, onward_of, onwards_of}
use Rattle.scp_apply.specs.scp_ledger.specs.Seen.{LedgerView}
use Rattle.scp_apply.specs.Applier.{ApplierView}
use Rattle.scp_apply.specs.Applies.{Applies, AppliesPass}
use Rattle.scp_theorem.specs.Handed.{out_of, Serves, ServesEach, Answers, AnswersEach}
use Rattle.scp_theorem.proofs.Driving.{driver_stays}

-- ---- the slot stage

module _ {D : Type 0} (says : Says D) where
  -- one thing more
  pub serves_one : (first old new : LedgerView D) (takes : List Taking) (t : Taking) → ServesEach says first takes old → Serves says old t new → ServesEach says first (takes ++ t ∷ []) new
  serves_one first old new [] t e serves = (new, subst (λ (v : LedgerView D). Serves says v t new) e serves, refl)
  serves_one first old new (u ∷ takes) t e serves = (e.0, e.1, serves_one e.0 old new takes t e.2 serves)

  -- it keeps its application
  pub driver_kept : (old : LedgerView D) (takes : List Taking) (new : LedgerView D) → ServesEach says old takes new → new.driver ≡ old.driver
  driver_kept old [] new e = ap (λ (v : LedgerView D). v.driver) e
  driver_kept old (t ∷ takes) new e = driver_kept e.0 takes new e.2 ∙ driver_stays says old t.gave e.0 t.thing e.1.takes

  -- its journal is that of all that it took
  pub journals_each : JournalsPass says.level says.extracted says.combined says.place → (me : NodeId) (set : QuorumTree) (peers : List NodeId) (took : List Ready) (onwards : List Onward) (old : LedgerView D) (takes : List Taking) (new : LedgerView D) → ServesEach says old takes new
      → JournalsBy says me set peers took onwards old → JournalsBy says me set peers (took ++ things takes) (onwards ++ onwards_of takes) new
  journals_each pass me set peers took onwards old [] new e j =
      subst (λ (v : LedgerView D). JournalsBy says me set peers (took ++ []) (onwards ++ []) v) (sym e)
      (subst (λ (xs : List Ready). JournalsBy says me set peers xs (onwards ++ []) old) (sym (append-nil took))
      (subst (λ (ys : List Onward). JournalsBy says me set peers took ys old) (sym (append-nil onwards)) j))
  journals_each pass me set peers took onwards old (t ∷ takes) new e j =
      let more : List Ready = took ++ t.thing ∷ [] in
      let gave : List Onward = onwards ++ onward_of t in
      let one : JournalsBy says me set peers more gave e.0 = pass.passes me set peers old t.thing t.gave e.0 e.1.takes e.1.known (λ _. e.1.running) took onwards j in
      subst (λ (xs : List Ready). JournalsBy says me set peers xs (onwards ++ onwards_of (t ∷ takes)) new) (append_assoc took (t.thing ∷ []) (things takes))
      (subst (λ (ys : List Onward). JournalsBy says me set peers (more ++ things takes) ys new) (append_assoc onwards (onward_of t) (onwards_of takes))
      (journals_each pass me set peers more gave e.0 takes new e.2 one))

-- ---- the applier

-- one thing more
pub answers_one : (first old new : ApplierView) (took : List Onward) (out outs : List Outgoing) (x : Onward) (answer : Option (ℕ × Message)) → AnswersEach first took out old → Answers old x answer new → outs ≡ out_of answer → AnswersEach first (took ++ x ∷ []) (out ++ outs) new
answers_one first old new [] out outs x answer h takes is = (
  answer,
  new,
  subst (λ (v : ApplierView). Answers v x answer new) h.1 takes,
  [],
  ap (λ (os : List Outgoing). os ++ outs) h.0 ∙ is ∙ sym (append-nil (out_of answer)),
  (refl, refl),
)
answers_one first old new (y ∷ took) out outs x answer h takes is = (
  h.0,
  h.1,
  h.2,
  h.3 ++ outs,
  ap (λ (os : List Outgoing). os ++ outs) h.4 ∙ append_assoc (out_of h.0) h.3 outs,
  answers_one h.1 old new took h.3 outs x answer h.5 takes is,
)

-- what it took is applied or buffered
pub applies_each : AppliesPass → (took : List Onward) (old : ApplierView) (xs : List Onward) (out : List Outgoing) (new : ApplierView) → AnswersEach old xs out new → Applies took old → Applies (took ++ xs) new
applies_each pass took old [] out new a h = subst (λ (v : ApplierView). Applies (took ++ []) v) (sym a.1) (subst (λ (xs : List Onward). Applies xs old) (sym (append-nil took)) h)
applies_each pass took old (x ∷ xs) out new a h =
    let one : Applies (took ++ x ∷ []) a.1 = pass.passes took old x a.0 a.1 a.2.takes a.2.known (λ _. a.2.running) h in
    subst (λ (ys : List Onward). Applies ys new) (append_assoc took (x ∷ []) xs) (applies_each pass (took ++ x ∷ []) a.1 xs a.3 new a.5 one)
