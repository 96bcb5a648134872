-- What the definitions give together.
use Rattle.std.specs.Prelude.{◌≡◌, ◌↔◌, ◌++◌, ℕ, List, Option, Contains}
use Rattle.std.specs.List.Sorted.{IsPermutation}
use Rattle.scp_ledger.specs.scp_wire.specs.declared.message.Message.{Message}
use Rattle.scp_ledger.specs.declared.journal.Decision.{Decision}
use Rattle.scp_ledger.specs.declared.took.Onward.{Onward}
use Rattle.scp_ledger.specs.Decisions.{IsNext}
use Rattle.scp_apply.specs.Applier.{ApplierView, IsApplier, IsRunning, IsInWindow, CanTake, Takes}

-- an applier that took exactly these decisions can take the next one that a ledger of the same first slot makes after them
abbrev pub NextCanBeTaken : Type 0
NextCanBeTaken = (v : ApplierView) (earlier : List Decision) (d : Decision) → IsApplier v → IsRunning v → IsPermutation earlier (v.applied ++ v.buffer) → IsNext v.first earlier d → IsInWindow v d.slot.0

-- two appliers show the same, except for the order of their buffers
pub record ShowTheSame (v w : ApplierView) : Type 0 where
  pub first : w.first ≡ v.first
  pub base : w.base ≡ v.base
  pub failed : w.failed ≡ v.failed
  pub applied : w.applied ≡ v.applied
  pub buffer : (d : Decision) → Contains w.buffer d ↔ Contains v.buffer d

-- two appliers that run, show the same and take the same give the same answer and show the same then
abbrev pub ApplyingIsAFunction : Type 0
ApplyingIsAFunction = (v w : ApplierView) (x : Onward) (a b : Option (ℕ × Message)) (v' w' : ApplierView) → ShowTheSame v w → IsApplier v → IsRunning v → CanTake v x → Takes v x a v' → Takes w x b w' → IsApplier v' → IsRunning v' → IsApplier w' → IsRunning w' → (a ≡ b) × ShowTheSame v' w'
