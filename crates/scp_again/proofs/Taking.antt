-- Each thing that the slot stage takes: how the ledger stands then, and what is put.
use Rattle.std.proofs.Common.{◌≡◌, ℕ, false, List, [], ◌∷◌, refl, sym, ◌∙◌, ap, subst, inl, inr}
use Rattle.std.specs.Prelude.{Option, Some, None, Contains}
use Rattle.scp_core.specs.scp_driver.specs.Driver.{Says}
use Rattle.scp_core.specs.scp_types.specs.declared.names.ConnId.{ConnId}
use Rattle.scp_core.specs.scp_types.specs.declared.names.Seq.{Seq}
use Rattle.scp_core.specs.scp_types.specs.declared.names.Slot.{Slot}
use Rattle.scp_core.specs.scp_quorum.specs.SharedSet.{SharedSet}
use Rattle.scp_core.specs.scp_envelope.specs.declared.statement.Statement.{Statement}
use Rattle.scp_core.specs.scp_wire.specs.declared.message.Message.TheVariants.{GetRecord}
use Rattle.scp_core.specs.scp_outbox.specs.Sent.{statement_of}
use Rattle.scp_core.specs.scp_pending.specs.declared.ready.Ready.{Ready}
use Rattle.scp_core.specs.scp_slot.specs.declared.machine.SlotMachine.{SlotMachine}
use Rattle.scp_core.specs.scp_slot.specs.declared.output.SlotInput.{SlotInput}
use Rattle.scp_core.specs.scp_ledger.specs.declared.journal.Decision.{Decision}
use Rattle.scp_core.specs.scp_ledger.specs.declared.journal.Fate.{Fate}
use Rattle.scp_core.specs.scp_ledger.specs.declared.journal.Verdict.{Verdict}
use Rattle.scp_core.specs.scp_ledger.specs.declared.journal.Verdict.TheVariants.{Already, Decided as Deciding}
use Rattle.scp_core.specs.scp_ledger.specs.declared.took.Outgoing.{Outgoing}
use Rattle.scp_core.specs.scp_ledger.specs.declared.took.Outgoing.TheVariants.{To}
use Rattle.scp_core.specs.scp_ledger.specs.declared.took.Took.{Took}
use Rattle.scp_core.specs.scp_ledger.specs.By.{TakesBy}
use Rattle.scp_core.specs.scp_ledger.specs.Decisions.{is_decided, named_by}
use Rattle.scp_core.specs.scp_ledger.specs.Seen.{LedgerView, machine_at}
use Rattle.scp_core.specs.scp_ledger.specs.Takes.{RunsAt, Passes, Decides, Forwards, Asks}
use Rattle.scp_core.specs.scp_ledger.specs.Verdicts.{IsRecordVerdict, link_of}
use Rattle.scp_core.specs.scp_theorem.specs.Grounds.{Who}
use Rattle.scp_core.specs.scp_theorem.specs.Handed.{handed_by}
use Rattle.scp_core.specs.scp_theorem.proofs.Basics.{none_some, some_same, which}
use Rattle.scp_core.specs.scp_theorem.proofs.Fit.{AllOut, all_none, all_for}
use Rattle.scp_core.specs.scp_theorem.proofs.Ledgers.{LedgerStep, ledger_step, whatever_thing}
use Rattle.scp_again.proofs.Current.{IsOwnIf, HasDecision, IsWell, IsSaid, IsLast}
use Rattle.scp_again.proofs.AtSlot.{IsOver, IsAtSlot, well_then, said_then, last_then}
use Rattle.scp_again.proofs.Put.{ArePut, put_quiet}
use Rattle.scp_again.proofs.Running.{at_slot, puts}

module _ {D : Type 0} where
  -- what a step of the slot stage keeps, and what it puts
  pub record IsTaken (who : Who) (old : LedgerView D) (out : List Outgoing) (new : LedgerView D) : Type 0 where
    pub well : IsWell who new
    pub said : (s : Statement) → IsSaid who old s → IsSaid who new s
    pub puts : (link : ℕ) → ArePut who old new (handed_by out link)

-- no statement goes out
abbrev AreQuiet : List Outgoing → Type 0
AreQuiet out = AllOut (λ link m. statement_of m ≡ None) out

none_out : (out : List Outgoing) → out ≡ [] → AreQuiet out
none_out out is = subst AreQuiet (sym is) (all_none (λ link m. statement_of m ≡ None))

record_out : (out : List Outgoing) (link : ℕ) (at : Slot) → out ≡ To link (GetRecord at) ∷ [] → AreQuiet out
record_out out link at is = subst AreQuiet (sym is) (all_for (λ l m. statement_of m ≡ None) link (GetRecord at) refl)

module _ {D : Type 0} (says : Says D) where
  module _ (who : Who) (old : LedgerView D) (x : Ready) (took : Took) (new : LedgerView D) (well : IsWell who old) (step : LedgerStep who old x took new) where
    abbrev Result : Type 0
    Result = IsTaken who old took.outgoing new

    -- the machines and the decisions stay
    still : new.machines ≡ old.machines → new.decisions ≡ old.decisions → AreQuiet took.outgoing → Result
    still machines decisions quiet = record {
      well = record {
        me_is = step.me ∙ well.me_is;
        set_is = step.local ∙ well.set_is;
        machines = step.machines;
        kinds = λ at m e. well.kinds at m (was at m e);
        undecided = λ at m e. ap (λ (ds : List Decision). is_decided at ds) decisions ∙ well.undecided at m (was at m e);
        own = λ d there. well.own d (had d there);
        one = λ d e a b slots. well.one d e (had d a) (had e b) slots;
      };
      said = λ s h. record { node = h.node; behind = step.behind s h.behind; decided = subst (λ (ds : List Decision). HasDecision ds s s.pledges) (sym decisions) h.decided };
      puts = λ link. put_quiet who old new (handed_by took.outgoing link) (quiet link) last;
    }
      where
        was : (at : ℕ) (m : SlotMachine D) → machine_at new.machines at ≡ Some m → machine_at old.machines at ≡ Some m
        was at m e = ap (λ (ms : List (ℕ × SlotMachine D)). machine_at ms at) (sym machines) ∙ e

        had : (d : Decision) → Contains new.decisions d → Contains old.decisions d
        had d there = subst (λ (ds : List Decision). Contains ds d) decisions there

        last : (s : Statement) → IsLast old s → IsLast new s
        last s l = elim l [
          | inl m ↦ inl (record { machine = m.machine; there = ap (λ (ms : List (ℕ × SlotMachine D)). machine_at ms s.slot.0) machines ∙ m.there; is = m.is })
          | inr e ↦ inr (record { decided = ap (λ (ds : List Decision). is_decided s.slot.0 ds) decisions ∙ e.decided; own = λ kind d there slots. e.own kind d (had d there) slots })
        ]

    passes : (verdict : Option Verdict) (fates : List Fate) → Passes old verdict fates took new → Result
    passes verdict fates p = still (ap (λ (v : LedgerView D). v.machines) p.same) (ap (λ (v : LedgerView D). v.decisions) p.same) (none_out took.outgoing p.outgoing)

    forwards : (conn : ConnId) (seq : Seq) (at : Slot) (set : Option SharedSet) → Forwards old conn seq at set took new → Result
    forwards conn seq at set p = still (ap (λ (v : LedgerView D). v.machines) p.same) (ap (λ (v : LedgerView D). v.decisions) p.same) (none_out took.outgoing p.outgoing)

    asks : (link : ℕ) (at : Slot) → Asks old link at took new → Result
    asks link at p = still (ap (λ (v : LedgerView D). v.machines) p.same) (ap (λ (v : LedgerView D). v.decisions) p.same) (record_out took.outgoing link at p.outgoing)

    -- a machine runs
    runs : (at : Slot) (given : SlotInput) (fates : List Fate) → RunsAt says.level says.extracted says.combined says.place old at given fates took new → Result
    runs at given fates r =
        let h : IsAtSlot who old at.0 new = at_slot who says.level says.extracted says.combined says.place old at given fates took new well r in
        record {
          well = well_then who old at.0 new well h;
          said = said_then who old at.0 new well h;
          puts = puts who says.level says.extracted says.combined says.place old at given fates took new well r;
        }

    -- a record decides
    undecided_by : (link : ℕ) (at : Slot) (verdict : Verdict) → verdict ≡ Deciding → IsRecordVerdict old link at verdict → is_decided at.0 old.decisions ≡ false
    undecided_by link at verdict is h = elim h [
      | inl w ↦ absurd (other (sym is ∙ w.1))
      | inr w ↦ elim (which (is_decided at.0 old.decisions)) [
        | inl done ↦ absurd (w.0 (inl done))
        | inr open' ↦ open'
      ]
    ]
      where
        other : Deciding ≡ Already → ⊥
        other e = cc

    -- what it decides has no statement of the node
    named : (conn : ConnId) (seq : Seq) (at : Slot) (value : List ℕ) (s : Statement) (w : IsOver {D = D} who at.0 None (Some (named_by conn seq at value))) → IsOwnIf s w.decision.origin
    named conn seq at value s w = subst (λ (d : Decision). IsOwnIf s d.origin) (some_same (Some (named_by conn seq at value)) (named_by conn seq at value) w.decision refl w.added_is) tt

    decides : (conn : ConnId) (seq : Seq) (at : Slot) (value : List ℕ) (set : Option SharedSet) → is_decided at.0 old.decisions ≡ false → Decides old conn seq at value set took new → Result
    decides conn seq at value set undecided p =
        let h : IsAtSlot who old at.0 new = record {
          now = None;
          added = Some (named_by conn seq at value);
          undecided = undecided;
          me = step.me;
          local = step.local;
          machines = p.machines;
          decisions = p.decisions;
          goes = inr (record { decision = named_by conn seq at value; added_is = refl; none = refl; slot = refl; own = tt });
          mine = step.machines;
          behind = step.behind;
        } in
        record {
          well = well_then who old at.0 new well h;
          said = said_then who old at.0 new well h;
          puts = λ link. put_quiet who old new (handed_by took.outgoing link) (none_out took.outgoing p.outgoing link)
              (λ s l. last_then who old at.0 new well h s l (λ m is g. none_some None g.machine refl g.now_is) (λ m is w no. named conn seq at value s w));
        }

    by_step : TakesBy says old x took new → Result
    by_step t = whatever_thing says Result old x took new passes runs (λ link at is. asks link at) forwards (λ conn seq at value set verdict is right. decides conn seq at value set (undecided_by (link_of old.peers conn) at verdict is right)) t

  pub taken : (who : Who) (old : LedgerView D) (x : Ready) (took : Took) (new : LedgerView D) → IsWell who old → TakesBy says old x took new → IsTaken who old took.outgoing new
  taken who old x took new well t = by_step who old x took new well (ledger_step says who old x took new well.me_is well.set_is well.machines t) t
