-- What is told of a run.
use Rattle.std.proofs.Common.{◌≡◌, ◌≢◌, ◌⊎◌, inl, inr, refl, List, ℕ, Bool, true, false, subst, sym}
use Rattle.std.specs.Prelude.{Result, Ok, Err, IfOk}
use Rattle.scp_script_short.specs.scp_types.specs.declared.fault.Fault.{Fault}
use Rattle.scp_script_short.specs.scp_types.specs.declared.fault.Fault.TheVariants as faults
use Rattle.scp_convert.specs.scp_prompt.specs.declared.failure.Failure.{Failure}
use Rattle.scp_draw.specs.scp_trace.specs.declared.depth.Depth.{Depth}
use Rattle.scp_draw.specs.scp_trace.specs.declared.playing.Traced.{Traced}
use Rattle.scp_draw.specs.scp_trace.specs.Traced.{IsTraced}
use Rattle.scp_command.specs.declared.plain.Telling.{Telling}
use Rattle.scp_command.specs.declared.plain.Telling.TheVariants.{Whole, Part}
use Rattle.scp_command.specs.inside.Plain.{IsRunTelling, IsTellingOf}

abbrev IsMemory : Fault → Type 0
IsMemory faults.NoMemory = Unit {0}
IsMemory fault = ⊥

-- a fault is want of memory, or it isn't
pub either_memory : (fault : Fault) → (fault ≡ faults.NoMemory) ⊎ (fault ≢ faults.NoMemory)
either_memory faults.NoMemory = inl refl
either_memory (faults.Malformed place) = inr (λ e. subst IsMemory (sym e) tt)
either_memory faults.TooLong = inr (λ e. subst IsMemory (sym e) tt)
either_memory faults.Insane = inr (λ e. subst IsMemory (sym e) tt)
either_memory faults.Full = inr (λ e. subst IsMemory (sym e) tt)
either_memory faults.NotOpen = inr (λ e. subst IsMemory (sym e) tt)
either_memory faults.AlreadyOpen = inr (λ e. subst IsMemory (sym e) tt)
either_memory faults.LivesSpent = inr (λ e. subst IsMemory (sym e) tt)
either_memory faults.BadConfig = inr (λ e. subst IsMemory (sym e) tt)
either_memory faults.Failed = inr (λ e. subst IsMemory (sym e) tt)
either_memory faults.JournalFull = inr (λ e. subst IsMemory (sym e) tt)
either_memory (faults.BadScript line) = inr (λ e. subst IsMemory (sym e) tt)
either_memory (faults.Refused stage) = inr (λ e. subst IsMemory (sym e) tt)
either_memory faults.Device = inr (λ e. subst IsMemory (sym e) tt)

-- what is told of a script, with the line of the fault that ended it
pub telling_traced : (depth : Depth) (script : List ℕ) (told : Traced) (r : Result Telling Failure) → IsTraced depth script told → IfOk r (IsTellingOf told) → IfOk r (IsRunTelling depth script)
telling_traced depth script told (Ok (Whole text)) is h = (told, is, h.0, h.1)
telling_traced depth script told (Ok (Part text)) is h = (told, h.0, is, h.1, h.2)
telling_traced depth script told (Err failure) is h = tt
