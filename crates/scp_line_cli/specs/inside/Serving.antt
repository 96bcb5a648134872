-- What the program writes for a command line, and why a script isn't played.
use Rattle.std.specs.Prelude.{ℕ, ◌≡◌, ◌≤◌, ◌<◌, ◌⊎◌, List, length, Option, IfSome}
use Rattle.scp_line.specs.scp_types.specs.declared.limits.TheConstants.{SCRIPT_LIMIT}
use Rattle.scp_line.specs.scp_types.specs.declared.fault.Fault.TheVariants.{TooLong, Full, Failed, BadScript, Refused}
use Rattle.scp_line.specs.scp_types.specs.declared.fault.Stage.{Stage}
use Rattle.scp_line.specs.scp_device.specs.Device.{Gains, Fails}
use Rattle.scp_line.specs.declared.playing.PlayFault.{PlayFault}
use Rattle.scp_line.specs.scp_script.specs.Script.{IsScript, IsBadLine, commands_in}
use Rattle.scp_line.specs.Outcome.{fault_line, IsPlayFault}
use Rattle.scp_line.specs.Play.{IsNamed, Stops, Overflows}
use Rattle.scp_line.specs.Threads.{IsThreadsFault, IsOfTheNodes, AreGivenUp}

-- exactly this text was written, or the writer failed
abbrev pub IsWritten : {W : Type 0} → (W → Option (List ℕ)) → (W → ℕ) → W → List ℕ → W → Type 0
IsWritten written failures old text new = (Gains (written old) text (written new) × (failures new ≡ failures old)) ⊎ Fails (failures old) (failures new)

-- exactly the line of the fault was written, or the writer failed
abbrev pub IsTold : {W : Type 0} → (W → Option (List ℕ)) → (W → ℕ) → W → PlayFault → W → Type 0
IsTold written failures old fault new = IsWritten written failures old (fault_line fault.node fault.fault) new

-- why a script wasn't played; `left` is all that was left to read of it
pub record IsUnplayed (left : Option (List ℕ)) (fault : PlayFault) : Type 0 where
  pub cause : IsPlayFault fault.fault
  pub named : IsNamed fault.node fault.fault
  pub too_long : fault.fault ≡ TooLong → IfSome left (λ all. SCRIPT_LIMIT < length all)
  pub line : (line : ℕ) → fault.fault ≡ BadScript line → IfSome left (λ all. (length all ≤ SCRIPT_LIMIT) × IsBadLine all line)
  pub stops : fault.fault ≡ Failed → IfSome left (λ all. (length all ≤ SCRIPT_LIMIT) × IsScript all × Stops (commands_in all) fault.node)
  pub full : fault.fault ≡ Full → IfSome left (λ all. (length all ≤ SCRIPT_LIMIT) × IsScript all × Overflows (commands_in all))

-- why a script wasn't played in threads; `left` is all that was left to read of it
pub record IsUnplayedInThreads (left : Option (List ℕ)) (fault : PlayFault) : Type 0 where
  pub cause : IsThreadsFault fault.fault
  pub named : IsNamed fault.node fault.fault
  pub too_long : fault.fault ≡ TooLong → IfSome left (λ all. SCRIPT_LIMIT < length all)
  pub line : (line : ℕ) → fault.fault ≡ BadScript line → IfSome left (λ all. (length all ≤ SCRIPT_LIMIT) × IsBadLine all line)
  pub stage : (stage : Stage) → fault.fault ≡ Refused stage → IfSome left (λ all. (length all ≤ SCRIPT_LIMIT) × IsScript all)
  pub full : fault.fault ≡ Full → IfSome left (λ all. (length all ≤ SCRIPT_LIMIT) × IsScript all)
  pub given_up : IsOfTheNodes fault.fault → IfSome left (λ all. AreGivenUp all fault.node fault.fault)
