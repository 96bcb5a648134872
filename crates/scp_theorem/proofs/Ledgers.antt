-- What the slot stage sends with each thing that it takes.
use Rattle.std.proofs.Common.{◌≡◌, ℕ, Bool, true, false, cond, List, [], ◌∷◌, refl, sym, ◌∙◌, ap, inl, inr, ◌⊎◌}
use Rattle.std.specs.Prelude.{Option, Some, None, option_to_list}
use Rattle.std.specs.BTreeMap as tree
use Rattle.std.specs.Ordering.{nat_cmp}
use Rattle.scp_apply.specs.scp_driver.specs.Driver.{Says}
use Rattle.scp_outbox.specs.scp_types.specs.declared.names.ConnId.{ConnId}
use Rattle.scp_outbox.specs.scp_types.specs.declared.names.Seq.{Seq}
use Rattle.scp_outbox.specs.scp_types.specs.declared.names.Slot.{Slot}
use Rattle.scp_outbox.specs.scp_quorum.specs.QuorumTree.{QuorumTree}
use Rattle.scp_outbox.specs.scp_quorum.specs.SharedSet.{SharedSet}
use Rattle.scp_outbox.specs.scp_envelope.specs.declared.statement.Statement.{Statement}
use Rattle.scp_outbox.specs.scp_wire.specs.declared.link.Command.{Command}
use Rattle.scp_outbox.specs.scp_wire.specs.declared.link.Command.TheVariants.{Propose, Round, Timer, Tick, Ask}
use Rattle.scp_outbox.specs.scp_wire.specs.declared.message.Message.{Message}
use Rattle.scp_outbox.specs.scp_wire.specs.declared.message.Message.TheVariants.{Envelope, GetSet, Set, NoSet, GetRecord, Record, Records}
use Rattle.scp_apply.specs.scp_pending.specs.Queues.{hash_of}
use Rattle.scp_apply.specs.scp_pending.specs.declared.ready.Ready.{Ready}
use Rattle.scp_apply.specs.scp_pending.specs.declared.ready.Ready.TheVariants as ready
use Rattle.scp_apply.specs.scp_slot.specs.declared.machine.SlotMachine.{SlotMachine}
use Rattle.scp_apply.specs.scp_slot.specs.declared.output.SlotInput.{SlotInput}
use Rattle.scp_apply.specs.scp_slot.specs.declared.output.SlotInput.TheVariants as input
use Rattle.scp_apply.specs.scp_slot.specs.declared.output.SlotOutput.{SlotOutput}
use Rattle.scp_apply.specs.scp_slot.specs.Slot.{slot_view}
use Rattle.scp_apply.specs.scp_ballot.specs.Balloting as ballot
use Rattle.scp_apply.specs.scp_ledger.specs.declared.journal.Decision.{Decision}
use Rattle.scp_apply.specs.scp_ledger.specs.declared.journal.Fate.{Fate}
use Rattle.scp_apply.specs.scp_ledger.specs.declared.journal.Verdict.{Verdict}
use Rattle.scp_apply.specs.scp_ledger.specs.declared.journal.Verdict.TheVariants.{Decided as Deciding}
use Rattle.scp_apply.specs.scp_ledger.specs.declared.took.Outgoing.TheVariants.{To}
use Rattle.scp_apply.specs.scp_ledger.specs.declared.took.Took.{Took}
use Rattle.scp_apply.specs.scp_ledger.specs.Seen.{LedgerView, machine_at}
use Rattle.scp_apply.specs.scp_ledger.specs.Decisions.{is_decided, named_by}
use Rattle.scp_apply.specs.scp_ledger.specs.Takes.{to_peers, decision_of, RunsAt, Passes, Decides, Forwards, TakesMessage, Commands, Asks, TakesAsk, TakesCommand}
use Rattle.scp_apply.specs.scp_ledger.specs.By.{TakesBy}
use Rattle.scp_apply.specs.scp_ledger.specs.Verdicts.{IsRecordVerdict, link_of}
use Rattle.scp_theorem.specs.Grounds.{Who}
use Rattle.scp_theorem.proofs.Basics.{IsMore, no_more, more_of, none_some, which, at_is}
use Rattle.scp_theorem.proofs.Emitted.{IsMine}
use Rattle.scp_theorem.proofs.Machines.{AreMine, IsBehind, Ran, ran, decided_then, decided_last}

module _ {D : Type 0} where
  -- nothing goes out; or a request for a record, by the command for it; or what a machine says
  abbrev pub Outs : Who → LedgerView D → LedgerView D → Ready → Took → Type 0
  Outs who old new x took = (took.outgoing ≡ []) ⊎ ((link : ℕ) × (slot : Slot) × (x ≡ ready.Local (Ask link slot)) × (took.outgoing ≡ To link (GetRecord slot) ∷ [])) ⊎ ((out : SlotOutput) × (took.outgoing ≡ to_peers out.emitted) × Ran who old out new)

  -- what the slot stage keeps and sends
  pub record LedgerStep (who : Who) (old : LedgerView D) (x : Ready) (took : Took) (new : LedgerView D) : Type 0 where
    pub me : new.me ≡ old.me
    pub local : new.local ≡ old.local
    pub machines : AreMine who.me (hash_of who.set) new
    pub behind : (s : Statement) → IsBehind old s → IsBehind new s
    pub journal : IsMore old.journal new.journal
    pub decisions : IsMore old.decisions new.decisions
    pub outs : Outs who old new x took

-- ---- one thing

-- what holds if the slot stage passes, runs a machine, asks, forwards a request and decides by a record holds whatever it takes
module _ {D : Type 0} (says : Says D) (P : Type 0) (old : LedgerView D) (x : Ready) (took : Took) (new : LedgerView D)
    (passes : (verdict : Option Verdict) (fates : List Fate) → Passes old verdict fates took new → P)
    (runs : (at : Slot) (given : SlotInput) (fates : List Fate) → RunsAt says.level says.extracted says.combined says.place old at given fates took new → P)
    (asks : (link : ℕ) (at : Slot) → x ≡ ready.Local (Ask link at) → Asks old link at took new → P)
    (forwards : (conn : ConnId) (seq : Seq) (at : Slot) (set : Option SharedSet) → Forwards old conn seq at set took new → P)
    (decides : (conn : ConnId) (seq : Seq) (at : Slot) (value : List ℕ) (set : Option SharedSet) (verdict : Verdict) → verdict ≡ Deciding → IsRecordVerdict old (link_of old.peers conn) at verdict → Decides old conn seq at value set took new → P) where
  commands : (at : Slot) (given : SlotInput) → Commands says.level says.extracted says.combined says.place old at given took new → P
  commands at given h = elim h [ inl w ↦ passes _ [] w.2 | inr r ↦ runs at given [] r ]

  takes_ask : (link : ℕ) (at : Slot) → x ≡ ready.Local (Ask link at) → TakesAsk old link at took new → P
  takes_ask link at is h = elim h.3 [ inl w ↦ passes _ [] w.1 | inr w ↦ asks link at is w.1 ]

  takes_command : (command : Command) → x ≡ ready.Local command → TakesCommand says.level says.extracted says.combined says.place old command took new → P
  takes_command (Propose at value) is h = commands at (input.Propose value) h
  takes_command (Round at) is h = commands at input.Round h
  takes_command (Timer at) is h = commands at input.Timer h
  takes_command Tick is h = passes None [] h
  takes_command (Ask link at) is h = takes_ask link at is h

  takes_message : (conn : ConnId) (seq : Seq) (m : Message) (beside : Option QuorumTree) → TakesMessage says.level says.extracted says.combined says.place old conn seq m beside took new → P
  takes_message conn seq (Envelope e) beside h = elim h.5 [ inl w ↦ passes _ _ w.1 | inr w ↦ runs e.value.statement.slot _ _ w.2 ]
  takes_message conn seq (GetSet hash) beside h = absurd h
  takes_message conn seq (Set inside) beside h = absurd h
  takes_message conn seq (NoSet hash) beside h = absurd h
  takes_message conn seq (Records first values) beside h = absurd h
  takes_message conn seq (GetRecord at) beside h = forwards conn seq at h.0 h.2
  takes_message conn seq (Record at value) beside h = elim h.2.3 [ inl w ↦ passes _ _ w.1 | inr w ↦ decides conn seq at value h.0 h.2.0 w.0 h.2.1 w.1 ]

  by_thing : (y : Ready) → x ≡ y → TakesBy says old y took new → P
  by_thing (ready.Deliver d) is t = takes_message d.conn d.seq d.message d.set t
  by_thing (ready.Dropped conn seq cause) is t = passes None _ t
  by_thing (ready.Closed conn cause) is t = passes None _ t
  by_thing (ready.Local command) is t = takes_command command is t

  pub whatever_thing : TakesBy says old x took new → P
  whatever_thing t = by_thing x refl t

-- ---- what the slot stage keeps and sends

module _ {D : Type 0} (says : Says D) where
  module _ (who : Who) (old : LedgerView D) (x : Ready) (took : Took) (new : LedgerView D) (me_is : old.me ≡ who.me) (set_is : old.local ≡ who.set) (mine : AreMine who.me (hash_of who.set) old) where
    -- the machines and the decisions stay
    still : new.me ≡ old.me → new.local ≡ old.local → new.machines ≡ old.machines → new.decisions ≡ old.decisions → IsMore old.journal new.journal → Outs who old new x took → LedgerStep who old x took new
    still me local machines decisions journal outs = record {
      me = me;
      local = local;
      machines = λ at m e. mine at m (ap (λ (ms : List (ℕ × SlotMachine D)). machine_at ms at) (sym machines) ∙ e);
      behind = λ s h. elim h as (λ _. IsBehind new s) [
        | inl done ↦ inl (ap (λ (ds : List Decision). is_decided s.slot.0 ds) decisions ∙ done)
        | inr w ↦ inr (w.0, ap (λ (ms : List (ℕ × SlotMachine D)). machine_at ms s.slot.0) machines ∙ w.1, w.2)
      ];
      journal = journal;
      decisions = no_more old.decisions new.decisions decisions;
      outs = outs;
    }

    passes : (verdict : Option Verdict) (fates : List Fate) → Passes old verdict fates took new → LedgerStep who old x took new
    passes verdict fates p = still (ap (λ (v : LedgerView D). v.me) p.same) (ap (λ (v : LedgerView D). v.local) p.same) (ap (λ (v : LedgerView D). v.machines) p.same) (ap (λ (v : LedgerView D). v.decisions) p.same) (more_of old.journal new.journal fates (ap (λ (v : LedgerView D). v.journal) p.same)) (inl p.outgoing)

    forwards : (conn : ConnId) (seq : Seq) (at : Slot) (set : Option SharedSet) → Forwards old conn seq at set took new → LedgerStep who old x took new
    forwards conn seq at set p = still (ap (λ (v : LedgerView D). v.me) p.same) (ap (λ (v : LedgerView D). v.local) p.same) (ap (λ (v : LedgerView D). v.machines) p.same) (ap (λ (v : LedgerView D). v.decisions) p.same) (more_of old.journal new.journal _ (ap (λ (v : LedgerView D). v.journal) p.same)) (inl p.outgoing)

    asks : (link : ℕ) (at : Slot) → x ≡ ready.Local (Ask link at) → Asks old link at took new → LedgerStep who old x took new
    asks link at is p = still (ap (λ (v : LedgerView D). v.me) p.same) (ap (λ (v : LedgerView D). v.local) p.same) (ap (λ (v : LedgerView D). v.machines) p.same) (ap (λ (v : LedgerView D). v.decisions) p.same) (no_more old.journal new.journal (ap (λ (v : LedgerView D). v.journal) p.same)) (inr (inl (link, at, is, p.outgoing)))

    runs : (at : Slot) (given : SlotInput) (fates : List Fate) → RunsAt says.level says.extracted says.combined says.place old at given fates took new → LedgerStep who old x took new
    runs at given fates r =
        let told = ran who says.level says.extracted says.combined says.place old at given fates took new me_is set_is mine r in
        record {
          me = ap (λ (v : LedgerView D). v.me) r.same;
          local = ap (λ (v : LedgerView D). v.local) r.same;
          machines = told.machines;
          behind = told.behind;
          journal = more_of old.journal new.journal fates r.journal;
          decisions = more_of old.decisions new.decisions (option_to_list (decision_of at r.out.decided)) r.decisions;
          outs = inr (inr (r.out, r.outgoing, told));
        }

    -- a record decides
    decides : (conn : ConnId) (seq : Seq) (at : Slot) (value : List ℕ) (set : Option SharedSet) → Decides old conn seq at value set took new → LedgerStep who old x took new
    decides conn seq at value set p = record {
      me = ap (λ (v : LedgerView D). v.me) p.same;
      local = ap (λ (v : LedgerView D). v.local) p.same;
      machines = λ s m e. mine_at s m e (which (tree.is_at (nat_cmp at.0) s));
      behind = λ s h. behind_at s h (which (tree.is_at (nat_cmp at.0) s.slot.0));
      journal = more_of old.journal new.journal _ p.journal;
      decisions = more_of old.decisions new.decisions (named_by conn seq at value ∷ []) p.decisions;
      outs = inl p.outgoing;
    }
      where
        machine_is : (s : ℕ) (b : Bool) → tree.is_at (nat_cmp at.0) s ≡ b → machine_at new.machines s ≡ cond b None (machine_at old.machines s)
        machine_is s b e = p.machines s ∙ ap (λ (t : Bool). cond t None (machine_at old.machines s)) e

        mine_at : (s : ℕ) (m : SlotMachine D) → machine_at new.machines s ≡ Some m → (tree.is_at (nat_cmp at.0) s ≡ true) ⊎ (tree.is_at (nat_cmp at.0) s ≡ false) → IsMine who.me s (hash_of who.set) (slot_view m) × (ballot.IsDecided (slot_view m).ballots → ⊥)
        mine_at s m e h = elim h [
          | inl same ↦ none_some (machine_at new.machines s) m (machine_is s true same) e
          | inr other ↦ mine s m (sym (machine_is s false other) ∙ e)
        ]

        behind_at : (s : Statement) → IsBehind old s → (tree.is_at (nat_cmp at.0) s.slot.0 ≡ true) ⊎ (tree.is_at (nat_cmp at.0) s.slot.0 ≡ false) → IsBehind new s
        behind_at s h k = elim h [
          | inl done ↦ inl (decided_then s.slot.0 old.decisions new.decisions (named_by conn seq at value ∷ []) p.decisions done)
          | inr w ↦ elim k [
            | inl same ↦ inl (ap (λ (n : ℕ). is_decided n new.decisions) (sym (at_is at.0 s.slot.0 same)) ∙ ap (λ (ds : List Decision). is_decided at.0 ds) p.decisions ∙ decided_last old.decisions (named_by conn seq at value))
            | inr other ↦ inr (w.0, machine_is s.slot.0 false other ∙ w.1, w.2)
          ]
        ]

    pub ledger_step : TakesBy says old x took new → LedgerStep who old x took new
    ledger_step t = whatever_thing says (LedgerStep who old x took new) old x took new passes runs asks forwards (λ conn seq at value set verdict is right d. decides conn seq at value set d) t
