-- What a ledger keeps; nothing here need be believed.
use Rattle.std.specs.Prelude.{ℕ, ◌+◌, ◌≤◌, ◌≡◌, Bool, false, cond, List, Option, Some, None, is_some, length}
use Rattle.std.specs.BTreeMap as tree
use Rattle.std.specs.Option.{ForSome}
use Rattle.std.specs.Ordering.{nat_cmp}
use Rattle.scp_slot.specs.scp_types.specs.declared.names.Slot.{Slot}
use Rattle.scp_slot.specs.scp_driver.specs.declared.driver.Level.{Level}
use Rattle.scp_slot.specs.declared.machine.SlotMachine.{SlotMachine}
use Rattle.scp_slot.specs.declared.output.SlotInput.{SlotInput}
use Rattle.scp_slot.specs.declared.output.SlotOutput.{SlotOutput}
use Rattle.scp_slot.specs.Slot.{slot_view, driver_of, Begins, VotesWell, IsSound as IsSlotSound, IsRunning as IsSlotRunning}
use Rattle.scp_slot.specs.Takes as slot
use Rattle.scp_ledger.specs.declared.state.State.{State}
use Rattle.scp_ledger.specs.declared.ledger.Ledger.TheInside as ledger
use Rattle.scp_ledger.specs.Seen.{LedgerView, machine_at}
use Rattle.scp_ledger.specs.Ledger.{IsLedger, HasMachines}
use Rattle.scp_ledger.specs.Takes.{HasAscendingNodes}
use Rattle.scp_ledger.specs.inside.Window.{IsWindow}

abbrev pub state_view : {D : Type 0} → Bool → State D → LedgerView D
state_view failed s = record {
  me = s.me;
  local = s.local.value;
  driver = s.driver;
  peers = s.peers.items;
  first = s.before + 1;
  failed = failed;
  journal = s.journal.items;
  decisions = s.decisions.items;
  lowest = s.window.lowest;
  asked = s.asked.keys;
  machines = s.machines.entries;
}

-- what a ledger that hasn't failed keeps
pub record IsSound {D : Type 0} (level : D → ℕ → List ℕ → Level) (place : D → ℕ → ℕ → ℕ → ℕ) (s : State D) : Type 0 where
  pub ledger : IsLedger (state_view false s)
  pub window : IsWindow (s.before + 1) s.decisions.items s.window
  pub machines : HasMachines level place (state_view false s)
  pub few_peers : length s.peers.items ≤ 255

-- a machine that was made for a slot that had none
pub record IsMade {D : Type 0} (level : D → ℕ → List ℕ → Level) (place : D → ℕ → ℕ → ℕ → ℕ) (s : State D) (at : Slot) (m : SlotMachine D) : Type 0 where
  pub begins : Begins s.me at.0 s.local.value (slot_view m)
  pub its_driver : driver_of m ≡ s.driver
  pub running : IsSlotRunning (slot_view m)
  pub sound : IsSlotSound level place m

abbrev pub IsTakenOut : {D : Type 0} → (D → ℕ → List ℕ → Level) → (D → ℕ → ℕ → ℕ → ℕ) → State D → Slot → Option (SlotMachine D) → SlotMachine D → Type 0
IsTakenOut level place s at None m = IsMade level place s at m
IsTakenOut level place s at (Some there) m = m ≡ there

-- the slot's machine ran on an input, and is kept unless it decided
pub record Ran {D : Type 0} (level : D → ℕ → List ℕ → Level) (extracted : D → ℕ → List ℕ → Option (List ℕ)) (combined : D → ℕ → List (List ℕ) → List ℕ) (place : D → ℕ → ℕ → ℕ → ℕ) (old : State D) (at : Slot) (given : SlotInput) (out : SlotOutput) (new : State D) : Type 0 where
  pub before : SlotMachine D
  pub taken : IsTakenOut level place old at (machine_at old.machines.entries at.0) before
  pub after : SlotMachine D
  pub takes : slot.Takes (level (driver_of before) (slot_view before).slot) (combined (driver_of before) (slot_view before).nomination.slot) given (slot_view before) out (slot_view after)
  pub decides : slot.Decides (slot_view before) out (slot_view after)
  pub ascending : ForSome out.decided HasAscendingNodes
  pub nominates : slot.NominatesExactly level extracted place (slot_view before) given after
  pub votes : VotesWell level extracted place (slot_view before) after
  pub running : IsSlotRunning (slot_view after)
  pub sound : IsSlotSound level place after
  pub its_driver : driver_of after ≡ driver_of before
  pub machines : (s : ℕ) → machine_at new.machines.entries s ≡ cond (tree.is_at (nat_cmp at.0) s) (cond (is_some out.decided) None (Some after)) (machine_at old.machines.entries s)

-- all these are as before
pub record KeepsRest {D : Type 0} (old new : State D) : Type 0 where
  pub me : new.me ≡ old.me
  pub local : new.local ≡ old.local
  pub driver : new.driver ≡ old.driver
  pub peers : new.peers ≡ old.peers
  pub before : new.before ≡ old.before
  pub machines : new.machines ≡ old.machines
  pub asked : new.asked ≡ old.asked

-- a refusal keeps what can be read of a failed ledger, and what its decisions rest on
pub record Leaves {D : Type 0} (old new : State D) : Type 0 where
  pub me : new.me ≡ old.me
  pub local : new.local ≡ old.local
  pub peers : new.peers ≡ old.peers
  pub before : new.before ≡ old.before
  pub journal : new.journal.items ≡ old.journal.items
  pub decisions : new.decisions.items ≡ old.decisions.items
  pub asked : new.asked ≡ old.asked

abbrev pub ledger_view : {D : Type 0} → ledger.Inside D → LedgerView D
ledger_view a = state_view a.failed a.state

-- what can be read of it holds, failed or not; what it keeps is sound unless it failed
pub record IsWell {D : Type 0} (level : D → ℕ → List ℕ → Level) (place : D → ℕ → ℕ → ℕ → ℕ) (a : ledger.Inside D) : Type 0 where
  pub known : IsLedger (ledger_view a)
  pub sound : a.failed ≡ false → IsSound level place a.state
