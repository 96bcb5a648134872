-- What was told, and where.
use Rattle.std.proofs.Common.{◌≡◌, ◌≢◌, ◌⊎◌, ◌≤◌, inl, inr, ℕ, List, Option, Some, None, refl, arith}
use Rattle.std.specs.Prelude.{Result, Ok, Err, OnOk, OnErr, IfSome, length, ◌<◌}
use Rattle.scp_script_short.specs.scp_types.specs.declared.fault.Fault.{Fault}
use Rattle.scp_script_short.specs.scp_types.specs.declared.fault.Fault.TheVariants.{NoMemory, Malformed, TooLong, Insane, Full, NotOpen, AlreadyOpen, LivesSpent, BadConfig, Failed, JournalFull, BadScript, Refused, Device}
use Rattle.scp_script_short.specs.scp_device.specs.Device.{Gains, Fails, IsAll, IsReadFault}
use Rattle.scp_convert.specs.scp_prompt.specs.declared.failure.Failure.{Failure}
use Rattle.scp_convert.specs.scp_prompt.specs.declared.failure.Failure.TheVariants as failures
use Rattle.scp_convert.specs.scp_prompt.specs.Failing.{status_of, IsToldLine}
use Rattle.scp_command.specs.Serving.{IsTold, IsWritten, IsUnread}
use Rattle.scp_command.specs.inside.Reading.{unread_of}

status_is : (failure : Failure) → (status_of failure ≡ 1) ⊎ (status_of failure ≡ 3)
status_is (failures.Word bad) = inl refl
status_is (failures.Line line) = inl refl
status_is (failures.TooLong limit) = inl refl
status_is (failures.Stopped stop) = inr refl
status_is failures.NoMemory = inr refl
status_is failures.Unread = inr refl
status_is failures.Unwritten = inr refl

pub few_status : (failure : Failure) → status_of failure ≤ 3
few_status failure = elim (status_is failure) [ inl e ↦ omega (arith, e) | inr e ↦ omega (arith, e) ]

pub no_usage : (failure : Failure) → status_of failure ≢ 2
no_usage failure two = elim (status_is failure) [ inl e ↦ omega (arith, e, two) | inr e ↦ omega (arith, e, two) ]

pub not_done : (failure : Failure) → status_of failure ≢ 0
not_done failure none = elim (status_is failure) [ inl e ↦ omega (arith, e, none) | inr e ↦ omega (arith, e, none) ]

pub not_noticed : (failure : Failure) → status_of failure ≢ 4
not_noticed failure four = elim (status_is failure) [ inl e ↦ omega (arith, e, four) | inr e ↦ omega (arith, e, four) ]

-- a text was written whole, or the writer failed
pub written_by : {W : Type 0} (written : W → Option (List ℕ)) (count : W → ℕ) (old new : W) (text : List ℕ) (r : Result (Unit {0}) Fault)
    → OnOk r (Gains (written old) text (written new)) → OnOk r (count new ≡ count old) → OnErr r (Fails (count old) (count new)) → IsWritten written count old text new
written_by written count old new text (Ok done) whole kept raised = inl (whole, kept)
written_by written count old new text (Err fault) whole kept raised = inr raised

-- the line of a failure was written whole, or the writer failed
pub told_by : {W : Type 0} (written : W → Option (List ℕ)) (count : W → ℕ) (old new : W) (name text why : List ℕ) (failure : Failure) (r : Result (Unit {0}) Fault)
    → OnOk r ((line : List ℕ) × IsToldLine name text why failure line × Gains (written old) line (written new)) → OnOk r (count new ≡ count old) → OnErr r (Fails (count old) (count new)) → IsTold written count old name text why failure new
told_by written count old new name text why failure (Ok done) whole kept raised = inl (whole.0, whole.1, whole.2, kept)
told_by written count old new name text why failure (Err fault) whole kept raised = inr raised

-- what was read is all that was left, where that is known
pub all_left : (left : Option (List ℕ)) (script : List ℕ) → IfSome left (λ all. script ≡ all) → IsAll left script
all_left None script h = tt
all_left (Some all) script h = h

-- an input that couldn't be read
pub is_unread : (limit : ℕ) (left : Option (List ℕ)) (failed : Type 0) (fault : Fault) → IsReadFault fault → (fault ≡ TooLong → IfSome left (λ all. limit < length all)) → (fault ≡ Device → failed) → IsUnread limit left failed (unread_of limit fault)
is_unread limit left failed NoMemory h t d = inr (inl refl)
is_unread limit left failed TooLong h t d = inl (refl, t refl)
is_unread limit left failed Device h t d = inr (inr (refl, d refl))
is_unread limit left failed (Malformed place) h t d = absurd h
is_unread limit left failed Insane h t d = absurd h
is_unread limit left failed Full h t d = absurd h
is_unread limit left failed NotOpen h t d = absurd h
is_unread limit left failed AlreadyOpen h t d = absurd h
is_unread limit left failed LivesSpent h t d = absurd h
is_unread limit left failed BadConfig h t d = absurd h
is_unread limit left failed Failed h t d = absurd h
is_unread limit left failed JournalFull h t d = absurd h
is_unread limit left failed (BadScript line) h t d = absurd h
is_unread limit left failed (Refused stage) h t d = absurd h
