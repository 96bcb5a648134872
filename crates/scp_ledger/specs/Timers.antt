-- Which timers of the open slots run.
use Rattle.std.specs.Prelude.{◌≡◌, ◌<◌, ◌≤◌, ◌+◌, ◌^◌, ℕ, zero, suc, List, [], Option, Some, None}
use Rattle.scp_slot.specs.scp_types.specs.declared.names.Slot.{Slot}
use Rattle.scp_slot.specs.declared.machine.SlotMachine.{SlotMachine}
use Rattle.scp_slot.specs.declared.timers.Timer.{Timer}
use Rattle.scp_slot.specs.Slot.{slot_view}
use Rattle.scp_slot.specs.Timers.{AddsTimers}
use Rattle.scp_ledger.specs.Seen.{machine_at}

-- the timers of a slot are added; without a machine it has none
abbrev pub AreTimersOf : {D : Type 0} → Slot → Option (SlotMachine D) → List Timer → List Timer → Type 0
AreTimersOf slot None old new = new ≡ old
AreTimersOf slot (Some m) old new = AddsTimers slot (slot_view m) old new

-- the timers of the slot of this number are added
abbrev pub AreTimersAt : {D : Type 0} → List (ℕ × SlotMachine D) → ℕ → List Timer → List Timer → Type 0
AreTimersAt machines slot old new = AreTimersOf (record { 0 = slot }) (machine_at machines slot) old new

-- if the slot's number is below 2 ^ 64, the slot's timers are added; otherwise nothing is
pub record AreTimersIfSlot {D : Type 0} (machines : List (ℕ × SlotMachine D)) (slot : ℕ) (old new : List Timer) : Type 0 where
  pub there : slot < 2 ^ 64 → AreTimersAt machines slot old new
  pub none : 2 ^ 64 ≤ slot → new ≡ old

-- the timers of this many slots from the lowest one on: those of all but the last, and then those of the last
unfoldable pub AreTimers : {D : Type 0} → List (ℕ × SlotMachine D) → ℕ → ℕ → List Timer → Type 0
AreTimers machines lowest zero timers = timers ≡ []
AreTimers machines lowest (suc k) timers = (before : List Timer) × AreTimers machines lowest k before × AreTimersIfSlot machines (lowest + k) before timers
