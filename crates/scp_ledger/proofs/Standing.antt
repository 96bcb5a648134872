-- A journal grows by what the things said that were taken.
use Rattle.std.proofs.Common.{◌≡◌, ℕ, List, [], ◌∷◌, ◌++◌, refl, sym, ◌∙◌, ap, inl, inr}
use Rattle.std.proofs.lemmas.Grind.{flat_map-append}
use Rattle.std.proofs.lemmas.List.{append-nil}
use Rattle.std.specs.Prelude.{Option, Some, None}
use Rattle.scp_slot.specs.scp_types.specs.declared.names.ConnId.{ConnId}
use Rattle.scp_slot.specs.scp_types.specs.declared.names.Seq.{Seq}
use Rattle.scp_slot.specs.scp_driver.specs.declared.driver.Level.{Level}
use Rattle.scp_slot.specs.scp_quorum.specs.QuorumTree.{QuorumTree}
use Rattle.scp_pending.specs.scp_wire.specs.Marks.{Mark}
use Rattle.scp_pending.specs.scp_wire.specs.declared.link.Command.{Command}
use Rattle.scp_pending.specs.scp_wire.specs.declared.link.Command.TheVariants.{Propose, Round, Timer, Tick, Ask}
use Rattle.scp_pending.specs.scp_wire.specs.declared.message.Message.{Message}
use Rattle.scp_pending.specs.scp_wire.specs.declared.message.Message.TheVariants.{Envelope, GetSet, Set, NoSet, GetRecord, Record, Records}
use Rattle.scp_pending.specs.declared.ready.Ready.{Ready}
use Rattle.scp_pending.specs.declared.ready.Ready.TheVariants as ready
use Rattle.scp_pending.specs.Line.{ready_mark}
use Rattle.scp_slot.specs.declared.output.SlotInput.{SlotInput}
use Rattle.scp_ledger.specs.declared.journal.Fate.{Fate}
use Rattle.scp_ledger.specs.declared.journal.Fate.TheVariants.{Taken, Dropped, Closed}
use Rattle.scp_ledger.specs.declared.took.Took.{Took}
use Rattle.scp_ledger.specs.declared.journal.Verdict.{Verdict}
use Rattle.scp_ledger.specs.declared.journal.Verdict.TheVariants.{Idle}
use Rattle.scp_slot.specs.scp_types.specs.declared.names.Slot.{Slot}
use Rattle.scp_slot.specs.scp_quorum.specs.SharedSet.{SharedSet}
use Rattle.scp_ledger.specs.Seen.{LedgerView}
use Rattle.scp_ledger.specs.Takes.{Takes, TakesMessage, TakesCommand, TakesRecord, Commands, Passes}
use Rattle.scp_ledger.specs.Marks.{entry_mark, marks_of}

-- the journal with one entry more, or with none
grown : (c : ConnId) (old new : List Fate) (fate : Fate) → new ≡ old ++ fate ∷ [] → marks_of c new ≡ marks_of c old ++ entry_mark c fate
grown c old new fate is = ap (marks_of c) is ∙ flat_map-append (entry_mark c) old (fate ∷ []) ∙ ap (λ (ms : List Mark). marks_of c old ++ ms) (append-nil (entry_mark c fate))

stayed : (c : ConnId) (old new : List Fate) → new ≡ old → marks_of c new ≡ marks_of c old ++ []
stayed c old new is = ap (marks_of c) is ∙ sym (append-nil (marks_of c old))

module _ {D : Type 0} (level : D → ℕ → List ℕ → Level) (extracted : D → ℕ → List ℕ → Option (List ℕ)) (combined : D → ℕ → List (List ℕ) → List ℕ) (place : D → ℕ → ℕ → ℕ → ℕ) (c : ConnId) (old : LedgerView D) (took : Took) (new : LedgerView D) where
  passed : (said : Option Verdict) (fates : List Fate) → Passes old said fates took new → new.journal ≡ old.journal ++ fates
  passed said fates p = ap (λ (v : LedgerView D). v.journal) p.same

  recorded : (conn : ConnId) (seq : Seq) (at : Slot) (value : List ℕ) (set : Option SharedSet) → TakesRecord old conn seq at value set took new → (verdict : Verdict) × (new.journal ≡ old.journal ++ Taken conn seq (Record at value) set verdict ∷ [])
  recorded conn seq at value set t = elim t.3 [
    | inl p ↦ (t.0, passed (Some t.0) (Taken conn seq (Record at value) set t.0 ∷ []) p.1)
    | inr d ↦ (_, d.1.journal)
  ]

  stands_message : (conn : ConnId) (seq : Seq) (m : Message) (beside : Option QuorumTree) → TakesMessage level extracted combined place old conn seq m beside took new → (fate : Fate) × (new.journal ≡ old.journal ++ fate ∷ []) × (entry_mark c fate ≡ entry_mark c (Taken conn seq m None Idle))
  stands_message conn seq (Envelope e) beside t = elim t.5 [
    | inl p ↦ (Taken conn seq (Envelope e) (Some t.0) t.2, passed (Some t.2) (Taken conn seq (Envelope e) (Some t.0) t.2 ∷ []) p.1, refl)
    | inr r ↦ (Taken conn seq (Envelope e) (Some t.0) t.2, r.2.journal, refl)
  ]
  stands_message conn seq (GetSet hash) beside t = absurd t
  stands_message conn seq (Set inside) beside t = absurd t
  stands_message conn seq (NoSet hash) beside t = absurd t
  stands_message conn seq (GetRecord at) beside t = (_, ap (λ (v : LedgerView D). v.journal) t.2.same, refl)
  stands_message conn seq (Records first values) beside t = absurd t
  stands_message conn seq (Record at value) beside t = (let r = recorded conn seq at value t.0 t.2 in (Taken conn seq (Record at value) t.0 r.0, r.1, refl))

  ran_or_passed : (at : Slot) (given : SlotInput) → Commands level extracted combined place old at given took new → new.journal ≡ old.journal
  ran_or_passed at given t = elim t [
    | inl p ↦ passed (Some p.0) [] p.2 ∙ append-nil old.journal
    | inr r ↦ r.journal ∙ append-nil old.journal
  ]

  stands_command : (command : Command) → TakesCommand level extracted combined place old command took new → new.journal ≡ old.journal
  stands_command (Propose at value) t = ran_or_passed at _ t
  stands_command (Round at) t = ran_or_passed at _ t
  stands_command (Timer at) t = ran_or_passed at _ t
  stands_command Tick t = passed None [] t ∙ append-nil old.journal
  stands_command (Ask link at) t = elim t.3 [
    | inl p ↦ passed (Some t.0) [] p.1 ∙ append-nil old.journal
    | inr a ↦ ap (λ (v : LedgerView D). v.journal) a.1.same
  ]

  pub stands : (r : Ready) → Takes level extracted combined place old r took new → marks_of c new.journal ≡ marks_of c old.journal ++ ready_mark c r
  stands (ready.Deliver d) t =
      let m = stands_message d.conn d.seq d.message d.set t in
      grown c old.journal new.journal m.0 m.1 ∙ ap (λ (ms : List Mark). marks_of c old.journal ++ ms) m.2
  stands (ready.Dropped conn seq cause) t = grown c old.journal new.journal (Dropped conn seq cause) (passed None (Dropped conn seq cause ∷ []) t)
  stands (ready.Closed conn cause) t = grown c old.journal new.journal (Closed conn cause) (passed None (Closed conn cause ∷ []) t)
  stands (ready.Local command) t = stayed c old.journal new.journal (stands_command command t)
