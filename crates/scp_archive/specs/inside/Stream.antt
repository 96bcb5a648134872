-- What comes after a record's mark.
use Rattle.std.specs.Prelude.{◌≡◌, ◌≢◌, ℕ, ◌+◌, ◌<◌, Bool, List, length, Option, Result, Ok, Err, nat_le, ◌-◌, ◌^◌, if◌then◌else◌}
use Rattle.scp_quorum.specs.scp_types.specs.declared.fault.Fault.{Fault}
use Rattle.scp_quorum.specs.scp_types.specs.declared.fault.Fault.TheVariants.{NoMemory}
use Rattle.scp_device.specs.Device.{Loses, IsAll}
use Rattle.scp_quorum.specs.scp_xdr.specs.Kind.{Values}
use Rattle.scp_archive.specs.declared.entries.Next.{Next}
use Rattle.scp_archive.specs.declared.entries.Next.TheVariants.{Entry, Unread as Passed, End, Cut}
use Rattle.scp_archive.specs.declared.entries.Unread.{Unread}
use Rattle.scp_archive.specs.Entry.{entry_kind, entry_value}
use Rattle.scp_archive.specs.Stream.{read_of, value_read}

-- a body of this length is taken off, and this is read of the record
abbrev pub TakesBody : Bool → ℕ → Option (List ℕ) → Result (Values entry_kind) Unread → Option (List ℕ) → Type 0
TakesBody is_last n old read new = (body : List ℕ) × (length body ≡ n) × Loses old body new × (read_of (record { is_last = is_last; body = body }) ≡ read)

-- fewer bytes than these were left, and all of them are taken
abbrev pub IsShortOf : ℕ → Option (List ℕ) → Option (List ℕ) → Type 0
IsShortOf n old new = (body : List ℕ) × (length body < n) × Loses old body new × IsAll old body

-- what a call takes off after a mark that says this
abbrev pub TakesRest : Bool → ℕ → Option (List ℕ) → Next → Option (List ℕ) → Type 0
TakesRest is_last n old (Entry e) new = TakesBody is_last n old (Ok (entry_value e)) new
TakesRest is_last n old (Passed why) new = TakesBody is_last n old (Err why) new
TakesRest is_last n old End new = ⊥
TakesRest is_last n old Cut new = IsShortOf n old new

-- a record that says this isn't read, for this reason
abbrev pub IsUnread : Bool → ℕ → Unread → Type 0
IsUnread is_last n why = (body : List ℕ) → length body ≡ n → read_of (record { is_last = is_last; body = body }) ≡ Err why

-- what was read of a record is given
abbrev pub IsReadAs : Next → Result (Values entry_kind) Unread → Type 0
IsReadAs (Entry e) read = read ≡ Ok (entry_value e)
IsReadAs (Passed why) read = read ≡ Err why
IsReadAs End read = ⊥
IsReadAs Cut read = ⊥

-- the reason that comes of this fault is given
abbrev pub TellsWhy : Fault → Next → Type 0
TellsWhy fault next = (read : Result (Values entry_kind) Fault) → (fault ≢ NoMemory → read ≡ Err fault) → IsReadAs next (value_read read)

-- whether a mark of this number ends its record
abbrev pub is_last_mark : ℕ → Bool
is_last_mark number = nat_le (2 ^ 31) number

-- how many bytes follow a mark of this number
abbrev pub marked_len : ℕ → ℕ
marked_len number = if nat_le (2 ^ 31) number then number - 2 ^ 31 else number

-- bytes of which this many are missing were taken off, and where any are missing, these were all
abbrev pub PassesOver : ℕ → Option (List ℕ) → ℕ → Option (List ℕ) → Type 0
PassesOver n old missing new = (body : List ℕ) × (length body + missing ≡ n) × Loses old body new × (0 < missing → IsAll old body)
