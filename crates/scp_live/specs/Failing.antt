-- The last line and the status of a node that can't begin, or that failed (this project's profile).
use Rattle.std.specs.Prelude.{ℕ, ◌≡◌, ◌+◌, ◌*◌, ◌-◌, ◌^◌, ◌⊎◌, List, ◌++◌, Option, min, codes, string_bytes}
use Rattle.std.specs.Fmt.{decimal}
use Rattle.std.specs.Str.{IsUtf8}
use Rattle.scp_again.specs.scp_types.specs.Fault.{number_of}
use Rattle.scp_again.specs.scp_types.specs.declared.fault.Fault.TheVariants as fault
use Rattle.scp_report.specs.scp_device.specs.Device.{Gains, GainsPart, Fails}
use Rattle.scp_live_log.specs.declared.kept.LogFault.{LogFault}
use Rattle.scp_live_log.specs.declared.kept.LogFault.TheVariants.{Another, Unbegun, Count, Damaged, Moved, Failed}
use Rattle.scp_live_log.specs.declared.wanted.Unfit.{Unfit}
use Rattle.scp_live_log.specs.declared.wanted.Unfit.TheVariants.{Chain, NoEvent, SendsOtherwise}
use Rattle.scp_live_log.specs.declared.wanted.Wanted.{Wanted}
use Rattle.scp_live_log.specs.declared.wanted.Wanted.TheVariants.{AtLeast, New}
use Rattle.scp_live_config.specs.Texts.{fault_text}
use Rattle.scp_live_config.specs.Wrong.{IsFaultOf}
use Rattle.scp_live_config.specs.declared.fault.ConfigFault.{ConfigFault}
use Rattle.scp_live_config.specs.declared.fault.ConfigFault.TheVariants as config

-- The line of a log at which the entry with this index begins. Each entry is two lines, behind the first line of the log. From 2^64 - 1
-- on, all have that number.
abbrev pub log_line : ℕ → ℕ
log_line place = min (place * 2 + 2) (2 ^ 64 - 1)

-- Why an entry doesn't fit, as the end of a line.
abbrev pub unfit_end : Unfit → List ℕ
unfit_end Chain = codes ": the chain doesn't fit\n"
unfit_end NoEvent = codes ": the line says no event\n"
unfit_end SendsOtherwise = codes ": something else is sent\n"

-- The line that reports a log with so many entries, where another count is wanted.
abbrev pub count_line : ℕ → Wanted → List ℕ
count_line n (AtLeast least) = (codes "fault 9 log has " ++ decimal n ++ codes " events, expected at least ") ++ (codes "" ++ decimal least ++ codes "\n")
count_line n New = codes "fault 9 log has " ++ decimal n ++ codes " events, expected none\n"

-- The line that reports a fault.
abbrev pub fault_line : LogFault → List ℕ
fault_line Another = codes "fault 9 log of another configuration\n"
fault_line Unbegun = codes "fault 9 log isn't begun: --new begins it\n"
fault_line (Count n wanted) = count_line n wanted
fault_line (Damaged place why) = codes "fault 12 log line " ++ decimal (log_line place) ++ unfit_end why
fault_line Moved = codes "fault 14 log was moved\n"
fault_line (Failed f) = codes "fault " ++ decimal (number_of f) ++ codes "\n"

-- The status that goes with it: 1 if the log doesn't fit, 3 if a call failed.
abbrev pub fault_status : LogFault → ℕ
fault_status Another = 1
fault_status Unbegun = 1
fault_status (Count n wanted) = 1
fault_status (Damaged place why) = 1
fault_status Moved = 3
fault_status (Failed f) = 3

-- The line that reports the fault of a configuration.
abbrev pub config_line : ConfigFault → List ℕ
config_line config.NoMemory = fault_line (Failed fault.NoMemory)
config_line (config.Text line words) = codes "fault 12 " ++ fault_text (config.Text line words) ++ codes "\n"
config_line (config.Wrong w) = codes "fault 9 " ++ fault_text (config.Wrong w) ++ codes "\n"

-- The status that goes with it.
abbrev pub config_status : ConfigFault → ℕ
config_status config.NoMemory = 3
config_status (config.Text line words) = 1
config_status (config.Wrong w) = 1

-- How often a writer has failed, and what was written, where that is known.
pub record Writing : Type 0 where
  pub failures : ℕ
  pub written : Option (List ℕ)

-- The line is written, and the status is this one. Or the writer failed: then a part of the line is written, and the status is 3.
abbrev pub IsReported : List ℕ → ℕ → Writing → Writing → ℕ → Type 0
IsReported line status old new result =
    ((result ≡ status) × (new.failures ≡ old.failures) × Gains old.written line new.written)
    ⊎ ((result ≡ 3) × Fails old.failures new.failures × GainsPart old.written line new.written)

-- The fault of a text that isn't UTF-8. It is reported at line 1, where there is memory for it.
abbrev pub IsForeign : ConfigFault → Type 0
IsForeign config.NoMemory = Unit {0}
IsForeign (config.Text line words) = (line ≡ 1) × (string_bytes words ≡ codes "expected a text in UTF-8")
IsForeign (config.Wrong w) = ⊥

-- This is why the bytes are no configuration: they aren't UTF-8, or it is the fault of their text.
abbrev pub IsConfigFault : List ℕ → ConfigFault → Type 0
IsConfigFault text f = (¬ (IsUtf8 text) × IsForeign f) ⊎ IsFaultOf text f
