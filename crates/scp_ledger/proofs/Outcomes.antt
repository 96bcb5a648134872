-- What came of an envelope, and of a record.
use Rattle.std.proofs.Common.{◌≡◌, ℕ, Bool, true, false, List, refl, sym, ◌∙◌, ap, subst, inl, inr, Result, Ok, Err}
use Rattle.std.proofs.Common.{cond, ◌+◌, ◌++◌}
use Rattle.std.specs.Prelude.{Option, Some, None, IfOk, OnOk, option_map, option_to_list}
use Rattle.scp_slot.specs.scp_types.specs.declared.names.ConnId.{ConnId}
use Rattle.scp_slot.specs.scp_types.specs.declared.names.Seq.{Seq}
use Rattle.scp_slot.specs.scp_types.specs.declared.names.Slot.{Slot}
use Rattle.scp_slot.specs.scp_driver.specs.declared.driver.Level.{Level}
use Rattle.scp_slot.specs.scp_quorum.specs.QuorumTree.{QuorumTree}
use Rattle.scp_slot.specs.scp_quorum.specs.SharedSet.{SharedSet}
use Rattle.scp_slot.specs.scp_envelope.specs.declared.statement.Envelope.{Envelope as Enveloped}
use Rattle.scp_pending.specs.scp_wire.specs.Boxed.{Boxed}
use Rattle.scp_pending.specs.scp_wire.specs.declared.message.Message.{Message}
use Rattle.scp_pending.specs.scp_wire.specs.declared.message.Message.TheVariants.{Envelope, Record}
use Rattle.scp_slot.specs.declared.machine.SlotMachine.{SlotMachine}
use Rattle.scp_slot.specs.declared.output.SlotInput.{SlotInput}
use Rattle.scp_slot.specs.declared.output.SlotInput.TheVariants as input
use Rattle.scp_slot.specs.declared.output.SlotOutput.{SlotOutput}
use Rattle.scp_slot.specs.Slot.{slot_view, driver_of}
use Rattle.scp_ledger.specs.declared.state.Entering.{Entering}
use Rattle.scp_ledger.specs.declared.state.State.{State}
use Rattle.scp_ledger.specs.declared.took.Took.{Took}
use Rattle.scp_ledger.specs.declared.journal.Verdict.{Verdict}
use Rattle.scp_ledger.specs.declared.journal.Verdict.TheVariants.{Decided}
use Rattle.scp_ledger.specs.Seen.{LedgerView, machine_at, is_asked}
use Rattle.scp_ledger.specs.Verdicts.{IsOpen, IsRecordVerdict, IsStatementVerdict}
use Rattle.scp_ledger.specs.Ledger.{HasMachines}
use Rattle.scp_ledger.specs.inside.Entering.{entries_of}
use Rattle.scp_ledger.specs.inside.State.{state_view, IsTakenOut, Ran, KeepsRest}
use Rattle.scp_ledger.specs.Takes.{RunsAt, TakesMessage, TakesEnvelope, TakesRecord, IsMachineFor, decision_of, decided_onward, to_peers, verdict_from}
use Rattle.scp_ledger.proofs.Ran.{knows, statement_verdict}

pub if_ok : {X E : Type 0} (r : Result X E) (P Q : X → Type 0) → ((x : X) → P x → Q x) → IfOk r P → IfOk r Q
if_ok (Ok x) P Q f p = f x p
if_ok (Err e) P Q f p = tt

pub if_ok2 : {X E : Type 0} (r : Result X E) (P Q R : X → Type 0) → ((x : X) → P x → Q x → R x) → IfOk r P → IfOk r Q → IfOk r R
if_ok2 (Ok x) P Q R f p q = f x p q
if_ok2 (Err e) P Q R f p q = tt

-- of five facts of one result
pub if_ok5 : {X E : Type 0} (r : Result X E) (P Q R Z : X → Type 0) (A B : Type 0) → ((x : X) → P x → Q x → R x → A → B → Z x) → IfOk r P → IfOk r Q → IfOk r R → OnOk r A → OnOk r B → IfOk r Z
if_ok5 (Ok x) P Q R Z A B f p q s a b = f x p q s a b
if_ok5 (Err e) P Q R Z A B f p q s a b = tt

not_true : (b : Bool) → (b ≡ false → ⊥) → b ≡ true
not_true true h = refl
not_true false h = absurd (h refl)

pub was_asked : {D : Type 0} (v : LedgerView D) (link : ℕ) (at : Slot) (verdict : Verdict) → IsRecordVerdict v link at verdict → verdict ≡ Decided → is_asked v.asked (record { link = link; slot = at }) ≡ true
was_asked v link at verdict (inl h) is = absurd (let e = h.1 in cc)
was_asked v link at verdict (inr (a, inl h)) is = absurd (let e = h.1 in cc)
was_asked v link at verdict (inr (a, inr (b, inl h))) is = absurd (let e = h.1 in cc)
was_asked v link at verdict (inr (a, inr (b, inr (asked, e)))) is = not_true (is_asked v.asked (record { link = link; slot = at })) asked

-- a machine was taken out, and put back unless it was done
-- a machine that was made for a slot without one
pub made_and_kept : {M : Type 0} (old new : Option M) (m : M) (at done : Bool) → (at ≡ true → old ≡ None) → new ≡ cond (cond done false at) (Some m) old → new ≡ cond at (cond done None (Some m)) old
made_and_kept old new m true true none b = b ∙ none refl
made_and_kept old new m true false none b = b
made_and_kept old new m false true none b = b
made_and_kept old new m false false none b = b

-- a machine that ran in its place, and is dropped then
pub run_and_gone : {M : Type 0} (old mid new : Option M) (m : M) (at : Bool) → mid ≡ cond at (Some m) old → new ≡ cond at None mid → new ≡ cond at None old
run_and_gone old mid new m true a b = b
run_and_gone old mid new m false a b = b ∙ a

some_is : (a b : Verdict) → Some a ≡ Some b → a ≡ b
some_is a b e = cc

-- the same but for what grows
same_else : {D : Type 0} (v w : LedgerView D) → w.me ≡ v.me → w.local ≡ v.local → w.driver ≡ v.driver → w.peers ≡ v.peers → w.first ≡ v.first → w.failed ≡ v.failed → w.asked ≡ v.asked → w ≡ record v { journal = w.journal; decisions = w.decisions; machines = w.machines; lowest = w.lowest }
same_else v w a b c d e f g = rw (← a, ← b, ← c, ← d, ← e, ← f, ← g) refl

module _ {D : Type 0} (level : D → ℕ → List ℕ → Level) (extracted : D → ℕ → List ℕ → Option (List ℕ)) (combined : D → ℕ → List (List ℕ) → List ℕ) (place : D → ℕ → ℕ → ℕ → ℕ) where
  made_for : (s : State D) (at : Slot) (o : Option (SlotMachine D)) (m : SlotMachine D) → IsTakenOut level place s at o m → IsMachineFor (state_view false s) at o m
  made_for s at None m made = (made.begins, made.its_driver)
  made_for s at (Some there) m same = same

  -- what came of an input, with the entries of its verdict
  abbrev pub RanAs : State D → State D → Slot → SlotInput → Option Entering → Took → Type 0
  RanAs s t at given entering took = (verdict : Verdict) × RunsAt level extracted combined place (state_view false s) at given (entries_of entering verdict) took (state_view false t) × (took.verdict ≡ Some verdict)

  pub ran_as : (old mid new : State D) (at : Slot) (given : SlotInput) (out : SlotOutput) (entering : Option Entering) (took : Took) → IsOpen old.window.lowest old.decisions.items at.0 → Ran level extracted combined place old at given out mid → mid ≡ record old { machines = mid.machines }
      → took.verdict ≡ Some (verdict_from out.verdict) → took.onward ≡ option_map decided_onward (decision_of at out.decided) → took.outgoing ≡ to_peers out.emitted
      → new.journal.items ≡ mid.journal.items ++ entries_of entering (verdict_from out.verdict) → new.decisions.items ≡ mid.decisions.items ++ option_to_list (decision_of at out.decided) → KeepsRest mid new → RanAs old new at given entering took
  ran_as old mid new at given out entering took is r same verdict onward outgoing journal decisions rest = (
    verdict_from out.verdict,
    record {
      is_open = is;
      before = r.before;
      machine = made_for old at (machine_at old.machines.entries at.0) r.before r.taken;
      out = out;
      after = r.after;
      takes = r.takes;
      decides = r.decides;
      ascending = r.ascending;
      driver = r.its_driver;
      nominates = r.nominates;
      votes = r.votes;
      machines = λ s. ap (λ x. machine_at x.entries s) rest.machines ∙ r.machines s;
      verdict = verdict;
      onward = onward;
      outgoing = outgoing;
      decisions = decisions ∙ ap (λ (s : State D). s.decisions.items ++ option_to_list (decision_of at out.decided)) same;
      journal = journal ∙ ap (λ (s : State D). s.journal.items ++ entries_of entering (verdict_from out.verdict)) same;
      same = same_else (state_view false old) (state_view false new)
          (rest.me ∙ ap (λ (s : State D). s.me) same)
          (ap (λ x. x.value) rest.local ∙ ap (λ (s : State D). s.local.value) same)
          (rest.driver ∙ ap (λ (s : State D). s.driver) same)
          (ap (λ x. x.items) rest.peers ∙ ap (λ (s : State D). s.peers.items) same)
          (ap (λ (n : ℕ). n + 1) (rest.before ∙ ap (λ (s : State D). s.before) same))
          refl
          (ap (λ x. x.keys) rest.asked ∙ ap (λ (s : State D). s.asked.keys) same);
    },
    verdict,
  )

  pub envelope_took : (s t : State D) (conn : ConnId) (seq : Seq) (e : Boxed) (set shared : SharedSet) (took : Took) (at : Slot) (x : Enveloped) → HasMachines level place (state_view false s) → at ≡ e.value.statement.slot → x ≡ e.value → shared.value ≡ set.value
      → RanAs s t at (input.Envelope x shared) (Some (record { conn = conn; seq = seq; envelope = e; set = set })) took → TakesEnvelope level extracted combined place (state_view false s) conn seq e (Some set.value) took (state_view false t)
  envelope_took s t conn seq e set shared took at x fits at_is x_is set_is ran =
      let entering : Option Entering = Some (record { conn = conn; seq = seq; envelope = e; set = set }) in
      let here : RanAs s t e.value.statement.slot (input.Envelope x shared) entering took = subst (λ (k : Slot). RanAs s t k (input.Envelope x shared) entering took) at_is ran in
      let now : RanAs s t e.value.statement.slot (input.Envelope e.value shared) entering took = subst (λ (y : Enveloped). RanAs s t e.value.statement.slot (input.Envelope y shared) entering took) x_is here in
      let v = state_view false s in
      let r = now.1 in
      let same : verdict_from r.out.verdict ≡ now.0 = some_is (verdict_from r.out.verdict) now.0 (sym r.verdict ∙ now.2) in
      let m = knows level place v e.value.statement.slot (machine_at v.machines e.value.statement.slot.0) r.before r.is_open.undecided (fits e.value.statement.slot.0) r.machine in
      let right = statement_verdict level (combined (driver_of r.before) (slot_view r.before).nomination.slot) v r.before r.after e.value shared r.out r.is_open m r.takes in
      (set, refl, now.0, subst (IsStatementVerdict level v e.value.statement) same right, now.2, inr (shared, set_is, r))

-- ---- what was delivered, by its parts

module _ {D : Type 0} (level : D → ℕ → List ℕ → Level) (extracted : D → ℕ → List ℕ → Option (List ℕ)) (combined : D → ℕ → List (List ℕ) → List ℕ) (place : D → ℕ → ℕ → ℕ → ℕ) (old new : LedgerView D) (took : Took) where
  named_so : (conn conn' : ConnId) (seq seq' : Seq) (m m' : Message) (beside : Option QuorumTree) → conn' ≡ conn → seq' ≡ seq → m' ≡ m → TakesMessage level extracted combined place old conn' seq' m' beside took new → TakesMessage level extracted combined place old conn seq m beside took new
  named_so conn conn' seq seq' m m' beside a b c t =
      subst (λ (x : ConnId). TakesMessage level extracted combined place old x seq m beside took new) a
      (subst (λ (x : Seq). TakesMessage level extracted combined place old conn' x m beside took new) b (subst (λ (x : Message). TakesMessage level extracted combined place old conn' seq' x beside took new) c t))

  pub delivered_envelope : (conn conn' : ConnId) (seq seq' : Seq) (m m' : Message) (beside : Option QuorumTree) (found : Option SharedSet) (e : Boxed) (set : SharedSet) → conn' ≡ conn → seq' ≡ seq → m' ≡ m → m' ≡ Envelope e → option_map (λ s. s.value) found ≡ beside → found ≡ Some set
      → TakesEnvelope level extracted combined place old conn' seq' e (Some set.value) took new → TakesMessage level extracted combined place old conn seq m beside took new
  delivered_envelope conn conn' seq seq' m m' beside found e set a b c is its set_is t =
      let there : Some set.value ≡ beside = ap (option_map (λ (s : SharedSet). s.value)) (sym set_is) ∙ its in
      named_so conn conn' seq seq' m (Envelope e) beside a b (sym is ∙ c) (subst (λ (x : Option QuorumTree). TakesEnvelope level extracted combined place old conn' seq' e x took new) there t)

  pub delivered_record : (conn conn' : ConnId) (seq seq' : Seq) (m m' : Message) (beside : Option QuorumTree) (found : Option SharedSet) (at : Slot) (value : List ℕ) → conn' ≡ conn → seq' ≡ seq → m' ≡ m → m' ≡ Record at value → option_map (λ s. s.value) found ≡ beside
      → TakesRecord old conn' seq' at value found took new → TakesMessage level extracted combined place old conn seq m beside took new
  delivered_record conn conn' seq seq' m m' beside found at value a b c is its t = named_so conn conn' seq seq' m (Record at value) beside a b (sym is ∙ c) (found, its, t)
