-- Why a script isn't played to its end.
use Rattle.std.proofs.Common.{◌≡◌, ◌∙◌, ℕ, List, refl, inl}
use Rattle.std.specs.Prelude.{◌≢◌, Result, Ok, Err, IfErr}
use Rattle.scp_line.specs.scp_types.specs.declared.fault.Fault.{Fault}
use Rattle.scp_line.specs.scp_types.specs.declared.fault.Fault.TheVariants as faults
use Rattle.scp_line.specs.scp_threaded_script.specs.Reported.{IsGivenUp}
use Rattle.scp_line.specs.scp_script.specs.declared.command.Command.{Command}
use Rattle.scp_line.specs.declared.playing.PlayFault.{PlayFault}
use Rattle.scp_line.specs.scp_device.specs.declared.bad.ReadFault.TheVariants as reads
use Rattle.scp_script_check.specs.Lines.{IsSaid}
use Rattle.scp_notices.specs.declared.playing.RunFault.{RunFault}
use Rattle.scp_notices.specs.declared.playing.RunFault.TheVariants.{Unread, Stopped, GivenUp}
use Rattle.scp_notices.specs.Run.{IsStoppedIn, IsRunFault}
use Rattle.scp_notices.specs.Threads.{IsThreadsFault}
use Rattle.scp_notices.specs.inside.Playing.{stop_by, stop_of, IsStop}
use Rattle.scp_notices.specs.inside.Threads.{ended_with, ended_by, IsEnding}

-- ---- one step after another

stop_by_so : (commands : List Command) (lines : List ℕ) (line : ℕ) (fault : PlayFault) (f : Fault) → f ≡ fault.fault → (fault.fault ≢ faults.NoMemory → IsStoppedIn commands lines line fault) → stop_by line fault f ≢ Unread reads.NoMemory → IsStop commands lines (stop_by line fault f)
stop_by_so commands lines line fault faults.NoMemory e h other = absurd (other refl)
stop_by_so commands lines line fault f e h other = h (λ none. let same : f ≡ faults.NoMemory = e ∙ none in cc)

pub stop_so : (commands : List Command) (lines : List ℕ) (line : ℕ) (fault : PlayFault) → (fault.fault ≢ faults.NoMemory → IsStoppedIn commands lines line fault) → stop_of line fault ≢ Unread reads.NoMemory → IsStop commands lines (stop_of line fault)
stop_so commands lines line fault h other = stop_by_so commands lines line fault fault.fault refl h other

pub run_stopped : (text : List ℕ) (commands : List Command) (lines : List ℕ) (e : RunFault) → IsSaid text commands lines → (e ≢ Unread reads.NoMemory → IsStop commands lines e) → IsRunFault text e
run_stopped text commands lines (Unread reads.NoMemory) said h = inl (commands, lines, said)
run_stopped text commands lines (Unread (reads.Bad bad)) said h = absurd (h (λ same. cc))
run_stopped text commands lines (Unread (reads.BadAt number)) said h = absurd (h (λ same. cc))
run_stopped text commands lines (Stopped line fault) said h = (commands, lines, said, h (λ same. cc))
run_stopped text commands lines (GivenUp fault) said h = h (λ same. cc)

-- ---- in threads

end_with_so : (commands : List Command) (fault : PlayFault) (f : Fault) → f ≡ fault.fault → IsGivenUp commands (record { fault = fault.fault; node = fault.node }) → ended_with fault f ≢ Unread reads.NoMemory → IsEnding commands (ended_with fault f)
end_with_so commands fault faults.NoMemory e h other = absurd (other refl)
end_with_so commands fault f e h other = (h, λ none. let same : f ≡ faults.NoMemory = e ∙ none in cc)

pub end_so : (commands : List Command) (fault : PlayFault) → IsGivenUp commands (record { fault = fault.fault; node = fault.node }) → ended_by fault ≢ Unread reads.NoMemory → IsEnding commands (ended_by fault)
end_so commands fault h other = end_with_so commands fault fault.fault refl h other

pub threads_ended : (text : List ℕ) (commands : List Command) (lines : List ℕ) (e : RunFault) → IsSaid text commands lines → (e ≢ Unread reads.NoMemory → IsEnding commands e) → IsThreadsFault text e
threads_ended text commands lines (Unread reads.NoMemory) said h = inl (commands, lines, said)
threads_ended text commands lines (Unread (reads.Bad bad)) said h = absurd (h (λ same. cc))
threads_ended text commands lines (Unread (reads.BadAt number)) said h = absurd (h (λ same. cc))
threads_ended text commands lines (Stopped line fault) said h = h (λ same. cc)
threads_ended text commands lines (GivenUp fault) said h =
    let ending = h (λ same. cc) in
    (commands, lines, said, ending.0, ending.1)

-- ---- what a call answers

pub run_told : {T : Type 0} (text : List ℕ) (commands : List Command) (lines : List ℕ) (r : Result T RunFault) → IsSaid text commands lines → IfErr r (λ e. e ≢ Unread reads.NoMemory → IsStop commands lines e) → IfErr r (IsRunFault text)
run_told {T} text commands lines (Ok ran) said h = tt
run_told {T} text commands lines (Err e) said h = run_stopped text commands lines e said h

pub threads_told : {T : Type 0} (text : List ℕ) (commands : List Command) (lines : List ℕ) (r : Result T RunFault) → IsSaid text commands lines → IfErr r (λ e. e ≢ Unread reads.NoMemory → IsEnding commands e) → IfErr r (IsThreadsFault text)
threads_told {T} text commands lines (Ok ran) said h = tt
threads_told {T} text commands lines (Err e) said h = threads_ended text commands lines e said h
