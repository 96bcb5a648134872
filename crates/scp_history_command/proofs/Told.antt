-- What was told, and where.
use Rattle.std.proofs.Common.{◌≡◌, inl, inr, ℕ, List, [], Option}
use Rattle.std.specs.Prelude.{Result, Ok, Err, OnOk, OnErr}
use Rattle.scp_ledgers.specs.scp_types.specs.declared.fault.Fault.{Fault}
use Rattle.scp_ledgers.specs.scp_device.specs.Device.{Gains, Fails}
use Rattle.scp_prompt.specs.declared.failure.Failure.{Failure}
use Rattle.scp_prompt.specs.Failing.{IsToldLine}
use Rattle.scp_history_command.specs.Serving.{IsTold}

-- the line of a failure was written whole, or the writer failed
pub told_by : {W : Type 0} (written : W → Option (List ℕ)) (count : W → ℕ) (old new : W) (name why : List ℕ) (failure : Failure) (r : Result (Unit {0}) Fault)
    → OnOk r ((line : List ℕ) × IsToldLine name [] why failure line × Gains (written old) line (written new)) → OnOk r (count new ≡ count old) → OnErr r (Fails (count old) (count new)) → IsTold written count old name why failure new
told_by written count old new name why failure (Ok done) whole kept raised = inl (whole.0, whole.1, whole.2, kept)
told_by written count old new name why failure (Err fault) whole kept raised = inr raised
