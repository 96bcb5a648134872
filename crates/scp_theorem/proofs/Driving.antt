-- A ledger that takes a thing keeps its application.
use Rattle.std.proofs.Common.{◌≡◌, ℕ, List, ap, inl, inr}
use Rattle.std.specs.Prelude.{Option}
use Rattle.scp_outbox.specs.scp_types.specs.declared.names.ConnId.{ConnId}
use Rattle.scp_outbox.specs.scp_types.specs.declared.names.Seq.{Seq}
use Rattle.scp_outbox.specs.scp_types.specs.declared.names.Slot.{Slot}
use Rattle.scp_apply.specs.scp_driver.specs.Driver.{Says}
use Rattle.scp_outbox.specs.scp_quorum.specs.QuorumTree.{QuorumTree}
use Rattle.scp_outbox.specs.scp_wire.specs.declared.link.Command.{Command}
use Rattle.scp_outbox.specs.scp_wire.specs.declared.link.Command.TheVariants.{Propose, Round, Timer, Tick, Ask}
use Rattle.scp_outbox.specs.scp_wire.specs.declared.message.Message.{Message}
use Rattle.scp_outbox.specs.scp_wire.specs.declared.message.Message.TheVariants.{Envelope, GetSet, Set, NoSet, GetRecord, Record, Records}
use Rattle.scp_apply.specs.scp_slot.specs.declared.output.SlotInput.{SlotInput}
use Rattle.scp_apply.specs.scp_slot.specs.declared.output.SlotInput.TheVariants as input
use Rattle.scp_apply.specs.scp_pending.specs.declared.ready.Ready.{Ready}
use Rattle.scp_apply.specs.scp_pending.specs.declared.ready.Ready.TheVariants as ready
use Rattle.scp_apply.specs.scp_ledger.specs.declared.took.Took.{Took}
use Rattle.scp_apply.specs.scp_ledger.specs.By.{TakesBy}
use Rattle.scp_apply.specs.scp_ledger.specs.Seen.{LedgerView}
use Rattle.scp_apply.specs.scp_ledger.specs.Takes.{Commands, TakesAsk, TakesCommand, TakesMessage}

module _ {D : Type 0} (says : Says D) (old : LedgerView D) (took : Took) (new : LedgerView D) where
  commanded : (at : Slot) (given : SlotInput) → Commands says.level says.extracted says.combined says.place old at given took new → new.driver ≡ old.driver
  commanded at given h = elim h [
    | inl w ↦ ap (λ (v : LedgerView D). v.driver) w.2.same
    | inr r ↦ ap (λ (v : LedgerView D). v.driver) r.same
  ]

  asked : (link : ℕ) (at : Slot) → TakesAsk old link at took new → new.driver ≡ old.driver
  asked link at h = elim h.3 [
    | inl w ↦ ap (λ (v : LedgerView D). v.driver) w.1.same
    | inr w ↦ ap (λ (v : LedgerView D). v.driver) w.1.same
  ]

  took_command : (command : Command) → TakesCommand says.level says.extracted says.combined says.place old command took new → new.driver ≡ old.driver
  took_command (Propose at value) h = commanded at (input.Propose value) h
  took_command (Round at) h = commanded at input.Round h
  took_command (Timer at) h = commanded at input.Timer h
  took_command Tick h = ap (λ (v : LedgerView D). v.driver) h.same
  took_command (Ask link at) h = asked link at h

  took_message : (conn : ConnId) (seq : Seq) (m : Message) (beside : Option QuorumTree) → TakesMessage says.level says.extracted says.combined says.place old conn seq m beside took new → new.driver ≡ old.driver
  took_message conn seq (Envelope e) beside h = elim h.5 [
    | inl w ↦ ap (λ (v : LedgerView D). v.driver) w.1.same
    | inr w ↦ ap (λ (v : LedgerView D). v.driver) w.2.same
  ]
  took_message conn seq (GetSet hash) beside h = absurd h
  took_message conn seq (Set inside) beside h = absurd h
  took_message conn seq (NoSet hash) beside h = absurd h
  took_message conn seq (Records first values) beside h = absurd h
  took_message conn seq (GetRecord at) beside h = ap (λ (v : LedgerView D). v.driver) h.2.same
  took_message conn seq (Record at value) beside h = elim h.2.3 [
    | inl w ↦ ap (λ (v : LedgerView D). v.driver) w.1.same
    | inr w ↦ ap (λ (v : LedgerView D). v.driver) w.1.same
  ]

  pub driver_stays : (x : Ready) → TakesBy says old x took new → new.driver ≡ old.driver
  driver_stays (ready.Deliver d) t = took_message d.conn d.seq d.message d.set t
  driver_stays (ready.Dropped conn seq cause) t = ap (λ (v : LedgerView D). v.driver) t.same
  driver_stays (ready.Closed conn cause) t = ap (λ (v : LedgerView D). v.driver) t.same
  driver_stays (ready.Local command) t = took_command command t
