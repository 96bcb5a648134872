-- What a command writes, and where it writes it (this project's profile).
use Rattle.std.specs.Prelude.{ℕ, ◌≡◌, ◌⊎◌, ◌≤◌, ◌<◌, Bool, true, false, List, [], ◌∷◌, ◌++◌, length, Option, Some, None, IfSome, string_bytes}
use Rattle.scp_script_short.specs.scp_device.specs.Device.{Gains, Fails as HasFailed}
use Rattle.scp_convert.specs.scp_prompt.specs.declared.asked.Conversion.{Conversion}
use Rattle.scp_convert.specs.scp_prompt.specs.declared.asked.Task.{Task}
use Rattle.scp_convert.specs.scp_prompt.specs.declared.asked.Task.TheVariants.{Check, Trace, Slot}
use Rattle.scp_convert.specs.scp_prompt.specs.declared.failure.Failure.{Failure}
use Rattle.scp_convert.specs.scp_prompt.specs.declared.failure.Failure.TheVariants.{Word, TooLong, NoMemory, Unread, Line}
use Rattle.scp_convert.specs.scp_prompt.specs.Failing.{IsToldLine, settled_line}
use Rattle.scp_notices.specs.scp_line.specs.declared.playing.PlayFault.{PlayFault}
use Rattle.scp_notices.specs.scp_line.specs.Outcome.{fault_line}
use Rattle.scp_script_slot.specs.declared.script.Script.{Script as SlotScript}
use Rattle.scp_script_slot.specs.Answers.{IsPlayed}
use Rattle.scp_script_short.specs.scp_device.specs.declared.bad.BadLine.{BadLine}
use Rattle.scp_notices.specs.scp_script_check.specs.Lines.{IsFirstBad, IsBadAt, MayWant}
use Rattle.scp_notices.specs.scp_script_check.specs.Texts.{IsLinted}
use Rattle.scp_draw.specs.scp_trace.specs.declared.depth.Depth.{Depth}
use Rattle.scp_draw.specs.scp_trace.specs.declared.depth.Depth.TheVariants.{Stands, Whole}
use Rattle.scp_draw.specs.scp_trace.specs.declared.playing.Traced.{Traced}
use Rattle.scp_draw.specs.scp_trace.specs.Traced.{IsTraced}
use Rattle.scp_command.specs.declared.converting.RefusedLine.{RefusedLine}
use Rattle.scp_command.specs.Converting.{lines_of, AreReported}

-- the exit status: 0 without notices, else 4
abbrev pub status_of : List ℕ → ℕ
status_of [] = 0
status_of (byte ∷ bytes) = 4

-- the notices that are written: none if they are to be left out
abbrev pub noticed : Bool → List ℕ → List ℕ
noticed true notices = []
noticed false notices = notices

-- exactly this text was written, or the writer failed
abbrev pub IsWritten : {W : Type 0} → (W → Option (List ℕ)) → (W → ℕ) → W → List ℕ → W → Type 0
IsWritten written failures old text new = (Gains (written old) text (written new) × (failures new ≡ failures old)) ⊎ HasFailed (failures old) (failures new)

-- exactly the line of a failure was written, or the writer failed
abbrev pub IsTold : {W : Type 0} → (W → Option (List ℕ)) → (W → ℕ) → W → List ℕ → List ℕ → List ℕ → Failure → W → Type 0
IsTold written failures old name text why failure new =
    ((line : List ℕ) × IsToldLine name text why failure line × Gains (written old) line (written new) × (failures new ≡ failures old)) ⊎ HasFailed (failures old) (failures new)

-- exactly the lines that report these refused lines were written, or the writer failed
abbrev pub AreTold : {W : Type 0} → (W → Option (List ℕ)) → (W → ℕ) → W → Conversion → List ℕ → List ℕ → List RefusedLine → W → Type 0
AreTold written failures old conversion name input refused new =
    ((told : List ℕ) × AreReported conversion name input refused told × Gains (written old) told (written new) × (failures new ≡ failures old)) ⊎ HasFailed (failures old) (failures new)

-- Why an input wasn't read, where `left` is all that was left of it: it is over this limit, memory ran out, or the reader failed.
abbrev pub IsUnread : ℕ → Option (List ℕ) → Type 0 → Failure → Type 0
IsUnread limit left failed failure =
    ((failure ≡ TooLong limit) × IfSome left (λ all. limit < length all))
    ⊎ ((failure ≡ NoMemory) ⊎ ((failure ≡ Unread) × failed))

-- ---- the fixed form on one stream

-- what is shown of a run to its end, at this depth
abbrev pub IsPlainTrace : Depth → List ℕ → List ℕ → Type 0
IsPlainTrace depth script out = (told : Traced) × IsTraced depth script told × (told.fault ≡ None) × (out ≡ string_bytes told.text)

-- what is shown of a script to its end, by the command
abbrev pub IsPlain : Task → List ℕ → List ℕ → Type 0
IsPlain Check script out = IsLinted script out
IsPlain Slot script out = (read : SlotScript) × IsPlayed read out
IsPlain Trace script out = IsPlainTrace Whole script out
IsPlain task script out = IsPlainTrace Stands script out

-- A fault stopped the script. The text is what is shown of its run up to there, at this depth, and then the line of the fault.
abbrev pub IsPartTrace : Depth → List ℕ → List ℕ → Type 0
IsPartTrace depth script out = (told : Traced) × (fault : PlayFault) × IsTraced depth script told × (told.fault ≡ Some fault) × (out ≡ string_bytes told.text ++ fault_line fault.node fault.fault)

-- the same, by the command
abbrev pub IsPlainUpTo : Task → List ℕ → List ℕ → Type 0
IsPlainUpTo Trace script out = IsPartTrace Whole script out
IsPlainUpTo task script out = IsPartTrace Stands script out

-- Why nothing is shown of a script: its first bad line, or out of memory, which is possible only for some texts (`MayWant`).
abbrev pub IsNotPlainScript : List ℕ → Failure → Type 0
IsNotPlainScript script failure =
    ((failure ≡ NoMemory) × MayWant script)
    ⊎ (((bad : BadLine) × IsFirstBad script bad × (failure ≡ Word bad))
    ⊎ ((number : ℕ) × IsBadAt script number × (failure ≡ Line number)))

-- the same, by the command
abbrev pub IsNotPlain : Task → List ℕ → Failure → Type 0
IsNotPlain Slot script failure = (failure ≡ NoMemory) ⊎ ((line : ℕ) × (1 ≤ line) × (line ≤ length (lines_of script)) × (failure ≡ Line line))
IsNotPlain task script failure = IsNotPlainScript script failure

-- exactly the failure's line in the fixed form was written, or the writer failed
abbrev pub IsSettled : {W : Type 0} → (W → Option (List ℕ)) → (W → ℕ) → W → Failure → W → Type 0
IsSettled written failures old failure new = IsWritten written failures old (settled_line failure) new
