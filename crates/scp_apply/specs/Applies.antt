-- What holds of an applier and of what it took.
use Rattle.std.specs.Prelude.{◌≡◌, ℕ, false, List, [], ◌∷◌, ◌++◌, Option}
use Rattle.std.specs.List.Sorted.{IsPermutation}
use Rattle.scp_ledger.specs.scp_wire.specs.declared.message.Message.{Message}
use Rattle.scp_ledger.specs.declared.took.Onward.{Onward}
use Rattle.scp_ledger.specs.Onwards.{decisions_on, KeepsWindow}
use Rattle.scp_apply.specs.Applier.{ApplierView, IsApplier, IsRunning, CanTake}
use Rattle.scp_apply.specs.Applier.{Takes as ApplierTakes}

-- each decision that the applier took is applied or buffered
pub record Applies (took : List Onward) (v : ApplierView) : Type 0 where
  pub runs : v.failed ≡ false
  pub known : IsApplier v
  pub running : IsRunning v
  pub shared_out : IsPermutation (decisions_on took) (v.applied ++ v.buffer)

-- `Applies` holds of an applier that took nothing, and it holds with one thing more
pub record AppliesPass : Type 0 where
  pub begins : (v : ApplierView) → v.failed ≡ false → v.applied ≡ [] → v.buffer ≡ [] → IsApplier v → IsRunning v → Applies [] v
  pub passes : (took : List Onward) (old : ApplierView) (x : Onward) (answer : Option (ℕ × Message)) (new : ApplierView) → ApplierTakes old x answer new → IsApplier new → (new.failed ≡ false → IsRunning new) → Applies took old → Applies (took ++ x ∷ []) new

-- an applier that took all that came before can take the next thing
abbrev pub ApplierKeepsUp : Type 0
ApplierKeepsUp = (took : List Onward) (v : ApplierView) (x : Onward) → Applies took v → KeepsWindow v.first (took ++ x ∷ []) → CanTake v x
