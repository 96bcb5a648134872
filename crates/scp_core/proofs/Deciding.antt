-- The slot stage and the applier: one thing more.
use Rattle.std.proofs.Common.{◌≡◌, ℕ, false, List, [], ◌∷◌, ◌++◌, sym, ◌∙◌, ap, subst, append_assoc, length}
use Rattle.std.specs.Prelude.{Option, Some, None, Any, take, option_to_list}
use Rattle.std.specs.List.Sorted.{IsPermutation}
use Rattle.std.proofs.lemmas.List.{append-nil}
use Rattle.std.proofs.lemmas.Grind.{flat_map-append}
use Rattle.std.proofs.lemmas.List.Sorted.{IsPermutation-append, IsPermutation-refl, IsPermutation-trans}
use Rattle.scp_theorem.specs.scp_driver.specs.Driver.{Says}
use Rattle.scp_theorem.specs.scp_types.specs.declared.names.NodeId.{NodeId}
use Rattle.scp_theorem.specs.scp_quorum.specs.QuorumTree.{QuorumTree}
use Rattle.scp_theorem.specs.scp_driver.specs.declared.driver.Level.{Level}
use Rattle.scp_theorem.specs.scp_wire.specs.declared.message.Message.{Message}
use Rattle.scp_theorem.specs.scp_pending.specs.declared.ready.Ready.{Ready}
use Rattle.scp_theorem.specs.scp_ledger.specs.declared.journal.Decision.{Decision}
use Rattle.scp_theorem.specs.scp_ledger.specs.declared.took.Onward.{Onward}
use Rattle.scp_theorem.specs.scp_ledger.specs.declared.took.Onward.TheVariants.{Decided, Asked}
use Rattle.scp_theorem.specs.scp_ledger.specs.declared.took.Took.{Took}
use Rattle.scp_theorem.specs.scp_ledger.specs.Decisions.{AreInWindow, IsNext}
use Rattle.scp_theorem.specs.scp_ledger.specs.Journals.{IsToAll, TakesGrow, JournalsPass}
use Rattle.scp_theorem.specs.scp_ledger.specs.Ledger.{IsLedger}
use Rattle.scp_theorem.specs.scp_ledger.specs.Onwards.{decision_on, decisions_on}
use Rattle.scp_theorem.specs.scp_ledger.specs.Runs.{nothing_taken}
use Rattle.scp_theorem.specs.scp_apply.specs.Applier.{ApplierView, IsApplier, IsRunning, CanTake}
use Rattle.scp_theorem.specs.scp_apply.specs.Applier.{Takes as ApplierTakes}
use Rattle.scp_theorem.specs.scp_apply.specs.Applies.{Applies, AppliesPass}
use Rattle.scp_theorem.specs.scp_apply.specs.Laws.{NextCanBeTaken}
use Rattle.scp_theorem.specs.scp_ledger.specs.Seen.{LedgerView}
use Rattle.scp_theorem.specs.scp_ledger.specs.By.{TakesBy, RunsBy, JournalsBy}
use Rattle.scp_theorem.proofs.Basics.{take_front}
use Rattle.scp_core.specs.Node.{said_in}
use Rattle.scp_core.specs.inside.Decider.{DeciderView, IsSound}
use Rattle.scp_core.specs.inside.Stage.{shown, Shows}

-- ---- the slot stage

module _ {D : Type 0} (says : Says D) where
  -- a ledger grows by what it takes
  abbrev pub GrowBy : Type 0
  GrowBy = TakesGrow says.level says.extracted says.combined says.place

  -- and what holds of it holds with one thing more
  abbrev pub PassBy : Type 0
  PassBy = JournalsPass says.level says.extracted says.combined says.place

  -- a ledger that runs and takes a thing runs on
  pub runs_on : GrowBy → (old : LedgerView D) (x : Ready) (t : Took) (new : LedgerView D) → old.failed ≡ false → TakesBy says old x t new → new.failed ≡ false
  runs_on grown old x t new runs takes = (grown old x t new takes).runs ∙ runs

  -- what a ledger shows of before a thing was taken, where the thing made it hand out own statements
  pub shown_before : GrowBy → (v : LedgerView D) (x : Ready) (t : Took) (new : LedgerView D) → TakesBy says v x t new → Any IsToAll t.outgoing → Shows v (shown (Some (record { journal = length v.journal; decisions = length v.decisions })) new)
  shown_before grown v x t new takes out =
      let g = grown v x t new takes in
      (ap (take (length v.journal)) g.journal ∙ take_front v.journal g.fates, ap (take (length v.decisions)) g.decisions ∙ take_front v.decisions (decisions_on (option_to_list t.onward)), g.asked out)

  pub journals_begin : PassBy → (me : NodeId) (local : QuorumTree) (peers : List NodeId) (v : LedgerView D) → v ≡ nothing_taken me local v.driver peers v.first → IsLedger v → RunsBy says v → JournalsBy says me local peers [] [] v
  journals_begin law = law.begins

  pub journals_step : PassBy → (me : NodeId) (local : QuorumTree) (peers : List NodeId) (took : List Ready) (onwards : List Onward) (old : LedgerView D) (x : Ready) (t : Took) (new : LedgerView D) → TakesBy says old x t new → IsLedger new → RunsBy says new → JournalsBy says me local peers took onwards old → JournalsBy says me local peers (took ++ x ∷ []) (onwards ++ option_to_list t.onward) new
  journals_step law me local peers took onwards old x t new takes known running j = law.passes me local peers old x t new takes known (λ runs. running) took onwards j

-- ---- the applier

one_more : (taken applied buffer rest : List Decision) (d : Decision) → IsPermutation taken (applied ++ buffer) → IsPermutation (applied ++ (buffer ++ d ∷ [])) rest → IsPermutation (taken ++ d ∷ []) rest
one_more taken applied buffer rest d p q =
    IsPermutation-trans (taken ++ d ∷ []) (applied ++ (buffer ++ d ∷ [])) rest
    (subst (λ (xs : List Decision). IsPermutation (taken ++ d ∷ []) xs) (append_assoc applied buffer (d ∷ [])) (IsPermutation-append taken (applied ++ buffer) (d ∷ []) (d ∷ []) p (IsPermutation-refl (d ∷ []))))
    q

pub applies_step : AppliesPass → (took : List Onward) (old : ApplierView) (x : Onward) (answer : Option (ℕ × Message)) (new : ApplierView) → ApplierTakes old x answer new → IsApplier new → IsRunning new → Applies took old → Applies (took ++ x ∷ []) new
applies_step law took old x answer new takes known running a = law.passes took old x answer new takes known (λ runs. running) a

-- ---- what the code keeps

module _ {D : Type 0} (says : Says D) where
  pub sound_take : GrowBy says → (v : DeciderView D) (x : Ready) (t : Took) (new : LedgerView D) → v.hand ≡ None → TakesBy says v.ledger x t new → IsLedger new → RunsBy says new → IsSound says v → IsSound says (record v { ledger = new; hand = t.onward; last_command = t.command; last_said = said_in t.outgoing })
  sound_take grown v x t new empty takes known running s =
      let g = grown v.ledger x t new takes in
      let queue : List Decision = decisions_on v.queue in
      let before : v.ledger.decisions ≡ s.taken ++ queue = s.decided ∙ ap (λ (o : Option Onward). s.taken ++ decisions_on (v.queue ++ option_to_list o)) empty ∙ ap (λ os. s.taken ++ decisions_on os) (append-nil v.queue) in
      record {
        ledger_runs = g.runs ∙ s.ledger_runs;
        applier_runs = s.applier_runs;
        ledger = known;
        deciding = running;
        applier = s.applier;
        running = s.running;
        first = s.first ∙ sym g.first;
        taken = s.taken;
        decided = g.decisions ∙ ap (λ ds. ds ++ decisions_on (option_to_list t.onward)) before ∙ append_assoc s.taken queue (decisions_on (option_to_list t.onward)) ∙ ap (λ ds. s.taken ++ ds) (sym (flat_map-append decision_on v.queue (option_to_list t.onward)));
        shared_out = s.shared_out;
      }

window_at : (first : ℕ) (earlier xs : List Decision) (d : Decision) (more : List Decision) → AreInWindow first earlier (xs ++ d ∷ more) → IsNext first (earlier ++ xs) d
window_at first earlier [] d more a = subst (λ (ds : List Decision). IsNext first ds d) (sym (append-nil earlier)) a.0
window_at first earlier (y ∷ ys) d more a = subst (λ (ds : List Decision). IsNext first ds d) (append_assoc earlier (y ∷ []) ys) (window_at first (earlier ++ y ∷ []) ys d more a.1)

module _ {D : Type 0} (says : Says D) where
  next_decided : (v : DeciderView D) (d : Decision) (rest : List Onward) (s : IsSound says v) → v.queue ≡ Decided d ∷ rest → v.ledger.decisions ≡ s.taken ++ d ∷ decisions_on (rest ++ option_to_list v.hand)
  next_decided v d rest s q = s.decided ∙ ap (λ os. s.taken ++ decisions_on (os ++ option_to_list v.hand)) q

  pub can_take : NextCanBeTaken → (v : DeciderView D) (x : Onward) (rest : List Onward) → IsSound says v → v.queue ≡ x ∷ rest → CanTake v.applier x
  can_take law v (Decided d) rest s q =
      law v.applier s.taken d s.applier s.running s.shared_out
      (subst (λ (first : ℕ). IsNext first s.taken d) (sym s.first) (window_at v.ledger.first [] s.taken d (decisions_on (rest ++ option_to_list v.hand)) (subst (λ (ds : List Decision). AreInWindow v.ledger.first [] ds) (next_decided v d rest s q) s.ledger.placed)))
  can_take law v (Asked link slot) rest s q = tt

  pub sound_apply : (v : DeciderView D) (x : Onward) (rest : List Onward) (answer : Option (ℕ × Message)) (new : ApplierView) → v.queue ≡ x ∷ rest → ApplierTakes v.applier x answer new → IsApplier new → IsRunning new → IsSound says v → IsSound says (record v { queue = rest; applier = new })
  sound_apply v (Decided d) rest answer new q takes known running s = record {
    ledger_runs = s.ledger_runs;
    applier_runs = takes.1.runs;
    ledger = s.ledger;
    deciding = s.deciding;
    applier = known;
    running = running;
    first = takes.1.first ∙ s.first;
    taken = s.taken ++ d ∷ [];
    decided = next_decided v d rest s q ∙ sym (append_assoc s.taken (d ∷ []) (decisions_on (rest ++ option_to_list v.hand)));
    shared_out = one_more s.taken v.applier.applied v.applier.buffer (new.applied ++ new.buffer) d s.shared_out takes.1.shared_out;
  }
  sound_apply v (Asked link slot) rest answer new q takes known running s = record {
    ledger_runs = s.ledger_runs;
    applier_runs = ap (λ (w : ApplierView). w.failed) takes.1 ∙ s.applier_runs;
    ledger = s.ledger;
    deciding = s.deciding;
    applier = known;
    running = running;
    first = ap (λ (w : ApplierView). w.first) takes.1 ∙ s.first;
    taken = s.taken;
    decided = s.decided ∙ ap (λ os. s.taken ++ decisions_on (os ++ option_to_list v.hand)) q;
    shared_out = subst (λ (w : ApplierView). IsPermutation s.taken (w.applied ++ w.buffer)) (sym takes.1) s.shared_out;
  }

pub takes_runs : (old : ApplierView) (x : Onward) (answer : Option (ℕ × Message)) (new : ApplierView) → old.failed ≡ false → ApplierTakes old x answer new → new.failed ≡ false
takes_runs old (Decided d) answer new runs takes = takes.1.runs
takes_runs old (Asked link slot) answer new runs takes = ap (λ (v : ApplierView). v.failed) takes.1 ∙ runs

-- an applier keeps its first slot
pub first_stays : (old : ApplierView) (x : Onward) (answer : Option (ℕ × Message)) (new : ApplierView) → ApplierTakes old x answer new → new.first ≡ old.first
first_stays old (Decided d) answer new takes = takes.1.first
first_stays old (Asked link slot) answer new takes = ap (λ (v : ApplierView). v.first) takes.1

-- and the bytes with which it began
pub base_stays : (old : ApplierView) (x : Onward) (answer : Option (ℕ × Message)) (new : ApplierView) → ApplierTakes old x answer new → new.base ≡ old.base
base_stays old (Decided d) answer new takes = takes.1.base
base_stays old (Asked link slot) answer new takes = ap (λ (v : ApplierView). v.base) takes.1
