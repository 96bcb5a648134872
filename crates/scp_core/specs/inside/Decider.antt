-- The slot stage, the queue after it and the applier, as the code keeps them; nothing here need be believed.
use Rattle.std.specs.Prelude.{ℕ, ◌≡◌, ◌≢◌, Bool, true, false, List, [], ◌∷◌, ◌++◌, Option, Some, None, length, option_to_list, Result, Ok, Err}
use Rattle.std.specs.List.Sorted.{IsPermutation}
use Rattle.scp_theorem.specs.scp_driver.specs.Driver.{Says}
use Rattle.scp_theorem.specs.scp_types.specs.declared.fault.Fault.{Fault}
use Rattle.scp_theorem.specs.scp_types.specs.declared.fault.Fault.TheVariants as faults
use Rattle.scp_theorem.specs.scp_types.specs.declared.names.NodeId.{NodeId}
use Rattle.scp_theorem.specs.scp_quorum.specs.QuorumTree.{QuorumTree}
use Rattle.scp_theorem.specs.scp_envelope.specs.declared.statement.Envelope.{Envelope}
use Rattle.scp_theorem.specs.scp_wire.specs.declared.message.Message.{Message}
use Rattle.scp_theorem.specs.scp_pending.specs.declared.ready.Ready.{Ready}
use Rattle.scp_theorem.specs.scp_ledger.specs.declared.journal.Decision.{Decision}
use Rattle.scp_theorem.specs.scp_ledger.specs.declared.took.CommandFate.{CommandFate}
use Rattle.scp_theorem.specs.scp_ledger.specs.declared.took.Onward.{Onward}
use Rattle.scp_theorem.specs.scp_ledger.specs.declared.took.Took.{Took}
use Rattle.scp_theorem.specs.scp_ledger.specs.Ledger.{IsLedger}
use Rattle.scp_theorem.specs.scp_ledger.specs.Onwards.{decisions_on}
use Rattle.scp_theorem.specs.scp_ledger.specs.Runs.{nothing_taken}
use Rattle.scp_theorem.specs.scp_ledger.specs.Takes.{adds_entry}
use Rattle.scp_theorem.specs.scp_apply.specs.Applier.{ApplierView, IsApplier, IsRunning}
use Rattle.scp_theorem.specs.scp_apply.specs.Applier.{Takes as ApplierTakes}
use Rattle.scp_theorem.specs.scp_outbox.specs.Outbox.{OutboxView}
use Rattle.scp_theorem.specs.Handed.{nothing_applied}
use Rattle.scp_core.specs.declared.event.Reply.{Reply}
use Rattle.scp_core.specs.declared.event.Reply.TheVariants.{Blocked, Idle, Moved, JournalFull, NoMemory}
use Rattle.scp_core.specs.Node.{HandsEach, said_in}
use Rattle.scp_theorem.specs.scp_ledger.specs.Seen.{LedgerView}
use Rattle.scp_theorem.specs.scp_ledger.specs.By.{TakesBy, TellsBy, RunsBy}

pub record DeciderView (D : Type 0) : Type 0 where
  pub failed : Bool
  pub fault : Option Fault
  pub ledger : LedgerView D
  pub hand : Option Onward
  pub last_command : Option CommandFate
  pub last_said : List Envelope
  pub queue : List Onward
  pub room : ℕ
  pub applier : ApplierView

module _ {D : Type 0} where
  abbrev pub new_decider : NodeId → QuorumTree → D → List NodeId → ℕ → ℕ → List ℕ → DeciderView D
  new_decider me local driver peers room first base = record {
    failed = false;
    fault = None;
    ledger = nothing_taken me local driver peers first;
    hand = None;
    last_command = None;
    last_said = [];
    queue = [];
    room = room;
    applier = nothing_applied first base;
  }

  abbrev pub fail : DeciderView D → DeciderView D
  fail v = record v { failed = true; fault = Some faults.NoMemory }

module _ {D : Type 0} (says : Says D) where
  -- while it runs, what was decided is what the applier took, then what waits in the queue, then the hand
  pub record IsSound (v : DeciderView D) : Type 0 where
    pub ledger_runs : v.ledger.failed ≡ false
    pub applier_runs : v.applier.failed ≡ false
    pub ledger : IsLedger v.ledger
    pub deciding : RunsBy says v.ledger
    pub applier : IsApplier v.applier
    pub running : IsRunning v.applier
    pub first : v.applier.first ≡ v.ledger.first
    pub taken : List Decision
    pub decided : v.ledger.decisions ≡ taken ++ decisions_on (v.queue ++ option_to_list v.hand)
    pub shared_out : IsPermutation taken (v.applier.applied ++ v.applier.buffer)

  abbrev pub IsWell : DeciderView D → Type 0
  IsWell v = v.failed ≡ false → IsSound v

module _ {D : Type 0} where
  -- what a failure leaves
  pub record Keeps (old new : DeciderView D) : Type 0 where
    pub failed : new.failed ≡ true
    pub journal : new.ledger.journal ≡ old.ledger.journal
    pub decisions : new.ledger.decisions ≡ old.ledger.decisions
    pub asked : new.ledger.asked ≡ old.ledger.asked
    pub command : new.last_command ≡ old.last_command
    pub said : new.last_said ≡ old.last_said
    pub applied : new.applier.applied ≡ old.applier.applied

module _ {D : Type 0} (says : Says D) where
  -- the slot stage takes a thing, and what goes out is put into the outboxes
  abbrev pub Decides : DeciderView D → List OutboxView → Ready → Reply → DeciderView D → List OutboxView → Type 0
  Decides old boxes x Moved new after' = (took : Took) × TakesBy says old.ledger x took new.ledger × TellsBy says old.ledger x took × IsLedger new.ledger × RunsBy says new.ledger × (new ≡ record old { ledger = new.ledger; hand = took.onward; last_command = took.command; last_said = said_in took.outgoing }) × HandsEach boxes took.outgoing after'
  Decides old boxes x JournalFull new after' = (adds_entry x ≡ true) × (length old.ledger.journal ≡ 1000000) × Keeps old new × (new.fault ≡ Some faults.JournalFull)
  Decides old boxes x NoMemory new after' = (¬ ((adds_entry x ≡ true) × (length old.ledger.journal ≡ 1000000))) × Keeps old new × (new.fault ≡ Some faults.NoMemory)
  Decides old boxes x reply new after' = ⊥

module _ {D : Type 0} where
  -- the hand goes into the queue
  abbrev pub PutsOn : DeciderView D → Reply → DeciderView D → Type 0
  PutsOn old Idle new = (old.hand ≡ None) × (new ≡ old)
  PutsOn old Blocked new = (x : Onward) × (old.hand ≡ Some x) × (length old.queue ≡ old.room) × (new ≡ old)
  PutsOn old Moved new = (length old.queue ≢ old.room) × (x : Onward) × (old.hand ≡ Some x) × (new ≡ record old { hand = None; queue = old.queue ++ x ∷ [] })
  PutsOn old reply new = ⊥

  -- the applier takes what is next
  pub record AppliesNext (old : DeciderView D) (answer : Option (ℕ × Message)) (new : DeciderView D) : Type 0 where
    pub x : Onward
    pub rest : List Onward
    pub queue : old.queue ≡ x ∷ rest
    pub takes : ApplierTakes old.applier x answer new.applier
    pub known : IsApplier new.applier
    pub running : IsRunning new.applier
    pub is : new ≡ record old { queue = rest; applier = new.applier }

  abbrev pub Applies : DeciderView D → Result (Option (ℕ × Message)) Reply → DeciderView D → Type 0
  Applies old (Err Idle) new = (old.queue ≡ []) × (new ≡ old)
  Applies old (Ok answer) new = AppliesNext old answer new
  Applies old (Err NoMemory) new = (old.queue ≢ []) × Keeps old new × (new.fault ≡ Some faults.NoMemory)
  Applies old (Err reply) new = ⊥
