-- What holds of a log between two calls.
use Rattle.std.specs.Prelude.{◌≡◌, ◌<◌, ◌⊎◌, ℕ, List, [], ◌++◌, length}
use Rattle.scp_live_log.specs.declared.kept.Kept.{Kept}
use Rattle.scp_live_log.specs.declared.kept.LogFault.{LogFault}
use Rattle.scp_live_log.specs.declared.kept.LogFault.TheVariants.{Failed, Moved}
use Rattle.scp_live_log.specs.Disk.{StartsWith, Only, LeavesOnly}
use Rattle.scp_live_log.specs.Log.{EntryView, Marked, log_of, last_digest, AreEntries, entries_of, HasNoEntry, HasBatch}
use Rattle.sha2.specs.Sha256.{sha256}

-- The file is exactly the log of these entries, all of it on the disk. The digest in memory is that of the last entry.
pub record IsSettled {L : Type 0} (holds may_leave : L → List ℕ → Type 0) (header : List ℕ) (ms : List Marked) (kept : Kept L) : Type 0 where
  pub file : holds kept.log (log_of header ms)
  pub entries : AreEntries ms
  pub last : kept.last.0 ≡ last_digest (sha256 header) ms
  pub durable : Only (log_of header ms) (may_leave kept.log)

-- The file is exactly the log of these entries, all of it on the disk.
pub record IsRecovered {L : Type 0} (holds may_leave : L → List ℕ → Type 0) (header : List ℕ) (entries : List EntryView) (kept : Kept L) : Type 0 where
  pub marked : List Marked
  pub are : entries_of marked ≡ entries
  pub settled : IsSettled holds may_leave header marked kept

-- All these entries were read. More were read only if something followed them in the file.
pub record IsAllAndMore (entries : List EntryView) (rest : List ℕ) (got : List EntryView) : Type 0 where
  pub more : List EntryView
  pub all : got ≡ entries ++ more
  pub none : rest ≡ [] → more ≡ []

-- The file is no log with this first line. It doesn't begin with the first line, and isn't a prefix of it.
abbrev pub IsAnother : List ℕ → List ℕ → Type 0
IsAnother header file = ¬ (StartsWith header file) × ¬ (StartsWith file header)

-- The file is as it was. If all of it was on the disk, a crash at any moment leaves it unchanged.
pub record IsUntouched {L : Type 0} (holds may_leave : L → List ℕ → Type 0) (moment : L → ℕ) (left_since : L → ℕ → List ℕ → Type 0) (file : List ℕ) (old new : L) : Type 0 where
  pub there : holds new file
  pub crash : Only file (may_leave old) → LeavesOnly moment left_since old new (λ c. c ≡ file)

-- The file is a proper prefix of the first line, such as an empty file.
abbrev pub IsUnbegun : List ℕ → List ℕ → Type 0
IsUnbegun header file = (length file < length header) × StartsWith file header

-- What the file holds besides the first line and these entries is so many bytes: those behind the entries, or all of them if the first line
-- is torn.
abbrev pub IsTornBy : List ℕ → List EntryView → ℕ → List ℕ → Type 0
IsTornBy header entries torn file =
    ((marked : List Marked) × (tail : List ℕ) × (entries_of marked ≡ entries) × (file ≡ log_of header marked ++ tail) × (length tail ≡ torn))
    ⊎ (IsUnbegun header file × (entries ≡ []) × (length file ≡ torn))

-- A log is refused so for what its file holds.
abbrev pub IsOfFile : LogFault → Type 0
IsOfFile Moved = ⊥
IsOfFile (Failed fault) = ⊥
IsOfFile other = Unit {0}

-- After n entries at the front of the file, no further entry fits.
pub record HasEntries (header : List ℕ) (n : ℕ) (file : List ℕ) : Type 0 where
  pub marked : List Marked
  pub tail : List ℕ
  pub count : length marked ≡ n
  pub splits : file ≡ log_of header marked ++ tail
  pub unfit : HasNoEntry (last_digest (sha256 header) marked) tail

-- After n entries at the front of the file, no further entry fits. A batch begins somewhere in the bytes that follow.
pub record IsDamaged (header : List ℕ) (n : ℕ) (file : List ℕ) : Type 0 where
  pub marked : List Marked
  pub tail : List ℕ
  pub count : length marked ≡ n
  pub splits : file ≡ log_of header marked ++ tail
  pub unfit : HasNoEntry (last_digest (sha256 header) marked) tail
  pub batch : HasBatch tail
