-- What is shown of a ledger that runs is all of it.
use Rattle.std.proofs.Common.{◌≡◌, Option, Some, None, false, refl}
use Rattle.scp_core.specs.declared.stage.Shown.{Shown}
use Rattle.scp_theorem.specs.scp_ledger.specs.Seen.{LedgerView}
use Rattle.scp_core.specs.inside.Stage.{shown}

module _ {D : Type 0} where
  pub shown_same : (cut : Option Shown) (v : LedgerView D) → (shown cut v).failed ≡ false → v ≡ shown cut v
  shown_same None v e = refl
  shown_same (Some so_much) v e = absurd cc
