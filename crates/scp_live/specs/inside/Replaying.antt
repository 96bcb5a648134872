-- Why entries can't be played again.
use Rattle.std.specs.Prelude.{ℕ, ◌≡◌, ◌⊎◌}
use Rattle.scp_again.specs.scp_types.specs.declared.fault.Fault.TheVariants as fault
use Rattle.scp_live_log.specs.declared.kept.LogFault.{LogFault}
use Rattle.scp_live_log.specs.declared.kept.LogFault.TheVariants.{Damaged, Failed}

-- Why the entry at this index isn't played: it doesn't fit, memory ran out, or the journal is full.
abbrev pub IsReplayFault : ℕ → LogFault → Type 0
IsReplayFault place (Damaged at why) = at ≡ place
IsReplayFault place (Failed f) = (f ≡ fault.NoMemory) ⊎ (f ≡ fault.JournalFull)
IsReplayFault place other = ⊥
