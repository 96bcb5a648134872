-- What the command writes, and where.
use Rattle.std.specs.Prelude.{◌≡◌, ◌⊎◌, ℕ, List, [], Option, if◌then◌else◌}
use Rattle.scp_ledgers.specs.scp_types.specs.declared.fault.Fault.{Fault}
use Rattle.scp_ledgers.specs.scp_types.specs.declared.fault.Fault.TheVariants as fault
use Rattle.scp_ledgers.specs.scp_device.specs.Device.{Gains, Fails as HasFailed}
use Rattle.scp_prompt.specs.declared.failure.Failure.{Failure}
use Rattle.scp_prompt.specs.declared.failure.Failure.TheVariants.{TooLong, NoMemory, Unread}
use Rattle.scp_prompt.specs.Failing.{IsToldLine}
use Rattle.scp_ledgers.specs.scp_audit.specs.declared.archive.Archive.{Archive}
use Rattle.scp_ledgers.specs.scp_history.specs.Status.{status}
use Rattle.scp_ledgers.specs.scp_history.specs.declared.line.Line.{Line}
use Rattle.scp_ledgers.specs.Report.{IsReport, report_text}
use Rattle.scp_history_json.specs.Json.{report_objects}
use Rattle.scp_history_command.specs.declared.order.HistoryOrder.{HistoryOrder}

-- the failure of an archive that couldn't be read: the reader failed, a quorum set broke a limit of 16 MiB, or memory ran out
abbrev pub unread_of : Fault → Failure
unread_of fault.Device = Unread
unread_of fault.TooLong = TooLong 16777216
unread_of f = NoMemory

-- the text of a report: as lines, or as an object for each
abbrev pub written : HistoryOrder → List Line → List ℕ
written order lines = if order.json then report_objects order.by_number lines else report_text order.by_number lines

-- the text is that of a report on the archives, with the report's status
pub record IsReported (order : HistoryOrder) (archives : List Archive) (text : List ℕ) (code : ℕ) : Type 0 where
  pub lines : List Line
  pub report : IsReport order.span archives lines
  pub is_text : text ≡ written order lines
  pub is_status : code ≡ status lines

-- exactly the line of a failure was written, or the writer failed
abbrev pub IsTold : {W : Type 0} → (W → Option (List ℕ)) → (W → ℕ) → W → List ℕ → List ℕ → Failure → W → Type 0
IsTold written failures old name why failure new =
    ((line : List ℕ) × IsToldLine name [] why failure line × Gains (written old) line (written new) × (failures new ≡ failures old)) ⊎ HasFailed (failures old) (failures new)
