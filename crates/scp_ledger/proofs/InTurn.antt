-- The timers of some slots, and of one more.
use Rattle.std.proofs.Common.{◌≡◌, ◌+◌, ℕ, List, [], refl, add-one}
use Rattle.scp_slot.specs.declared.machine.SlotMachine.{SlotMachine}
use Rattle.scp_slot.specs.declared.timers.Timer.{Timer}
use Rattle.scp_ledger.specs.Timers.{AreTimers, AreTimersIfSlot}

pub timers_none : {D : Type 0} (machines : List (ℕ × SlotMachine D)) (lowest : ℕ) → AreTimers machines lowest 0 []
unfolding AreTimers
timers_none machines lowest = refl

pub timers_more : {D : Type 0} (machines : List (ℕ × SlotMachine D)) (lowest k : ℕ) (before new : List Timer) → AreTimers machines lowest k before → AreTimersIfSlot machines (lowest + k) before new → AreTimers machines lowest (k + 1) new
unfolding AreTimers
timers_more machines lowest k before new so_far more = rw add-one (before, so_far, more)
