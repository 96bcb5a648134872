-- Scripts that are played.
-- No public clause reaches these definitions: nothing here need be believed.
use Rattle.std.specs.Prelude.{◌≡◌, ◌≢◌, ◌⊎◌, All, List, Some, None}
use Rattle.scp_script_short.specs.scp_types.specs.declared.fault.Fault.TheVariants as faults
use Rattle.scp_convert.specs.scp_prompt.specs.declared.failure.Failure.{Failure}
use Rattle.scp_convert.specs.scp_prompt.specs.declared.failure.Failure.TheVariants.{NoMemory}
use Rattle.scp_script_short.specs.declared.expanded.Expanded.{Expanded}
use Rattle.scp_notices.specs.declared.playing.RunFault.{RunFault}
use Rattle.scp_notices.specs.declared.playing.RunFault.TheVariants as runs
use Rattle.scp_notices.specs.scp_line.specs.declared.playing.PlayFault.{PlayFault}
use Rattle.scp_notices.specs.scp_report.specs.Report.{ReportView}
use Rattle.scp_account.specs.Fits.{FitsNode}
use Rattle.scp_command.specs.Given.{placed, stop_of}
use Rattle.scp_command.specs.inside.Given.{unread_script}

-- the failure of a script that wasn't played to its end
abbrev pub IsOfRun : Expanded → RunFault → Failure → Type 0
IsOfRun expanded (runs.Unread fault) failure = failure ≡ unread_script expanded fault
IsOfRun expanded (runs.Stopped line fault) failure = fault.fault ≢ faults.NoMemory → failure ≡ stop_of (Some (placed expanded.lines line)) fault
IsOfRun expanded (runs.GivenUp fault) failure = fault.fault ≢ faults.NoMemory → failure ≡ stop_of None fault

-- ---- accounts

-- why nodes with these records have no account: out of memory, or something that is over a limit
abbrev pub IsUntold : List ReportView → Failure → Type 0
IsUntold reports failure = (failure ≡ NoMemory) ⊎ ((fault : PlayFault) × (¬ (All FitsNode reports)) × (failure ≡ stop_of None fault))
