-- A channel whose size is in range is refused only for being out of memory.
use Rattle.std.proofs.Common.{◌≡◌, ℕ, ap, ◌⊎◌, ⊎_elim, Result, Ok, Err, IfErr, IsOkUnless}
use Rattle.std.specs.Prelude.{◌↔◌, IsErrOf}
use Rattle.scp_gather.specs.scp_types.specs.declared.fault.Fault.{Fault}
use Rattle.scp_gather.specs.scp_types.specs.declared.fault.Fault.TheVariants.{NoMemory, BadConfig}
use Rattle.scp_gather.specs.scp_ends.specs.Ends.{IsOfSize}

pub only_memory : {T : Type 0} (r : Result T Fault) (producers capacity : ℕ) → IfErr r (λ f. (f ≡ NoMemory) ⊎ (f ≡ BadConfig)) → (IsErrOf r BadConfig ↔ (IsOfSize producers capacity → ⊥)) → IsOfSize producers capacity → IsOkUnless r NoMemory
only_memory (Ok x) producers capacity only bad size = tt
only_memory (Err e) producers capacity only bad size = ⊎_elim (λ m. m) (λ b. absurd (bad.0 (ap Err b) size)) only
