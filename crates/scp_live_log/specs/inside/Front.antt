-- What was read at the front of a file.
use Rattle.std.specs.Prelude.{◌≡◌, ◌<◌, ◌+◌, ◌++◌, ◌∷◌, ℕ, List, length, take, drop}
use Rattle.scp_live_log.specs.Log.{EntryView, Marked, IsLine, AreEntries, HasNoEntry, spelled, last_digest, entries_of, log_of}
use Rattle.scp_device.specs.scp_types.specs.declared.fault.Fault.TheVariants.{NoMemory}
use Rattle.scp_live_log.specs.declared.kept.LogFault.{LogFault}
use Rattle.scp_live_log.specs.declared.kept.LogFault.TheVariants.{Another, Count, Damaged, Failed}
use Rattle.sha2.specs.Sha256.{sha256}

-- After this digest, the first `size` bytes are exactly these entries. No further entry follows them.
pub record IsFront (before bytes : List ℕ) (entries : List EntryView) (last : List ℕ) (size : ℕ) : Type 0 where
  pub marked : List Marked
  pub are : entries_of marked ≡ entries
  pub each : AreEntries marked
  pub splits : bytes ≡ spelled before marked ++ drop size bytes
  pub ends : last ≡ last_digest before marked
  pub no_more : HasNoEntry last (drop size bytes)

-- The first `size` bytes of the file are exactly the log of these entries. No further entry follows them.
pub record IsLogFront (header file : List ℕ) (entries : List EntryView) (last : List ℕ) (size : ℕ) : Type 0 where
  pub marked : List Marked
  pub are : entries_of marked ≡ entries
  pub each : AreEntries marked
  pub long : length (log_of header marked) ≡ size
  pub splits : file ≡ log_of header marked ++ drop size file
  pub ends : last ≡ last_digest (sha256 header) marked
  pub no_more : HasNoEntry last (drop size file)

-- The first line ends at this index.
pub record EndsAt (n : ℕ) (bytes : List ℕ) : Type 0 where
  pub within : n < length bytes
  pub line : IsLine (take n bytes)
  pub splits : bytes ≡ take n bytes ++ 10 ∷ drop (n + 1) bytes

-- Why the front of a file can't be read.
abbrev pub IsFrontFault : LogFault → Type 0
IsFrontFault Another = Unit {0}
IsFrontFault (Damaged n why) = Unit {0}
IsFrontFault (Failed fault) = fault ≡ NoMemory
IsFrontFault other = ⊥

-- Why the front of a file isn't what is wanted.
abbrev pub IsWantedFault : LogFault → Type 0
IsWantedFault (Count n wanted) = Unit {0}
IsWantedFault fault = IsFrontFault fault
