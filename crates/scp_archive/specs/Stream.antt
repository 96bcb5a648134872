-- A stream of records (RFC 5531, section 11), and what is read of it.
use Rattle.std.specs.Prelude.{◌≡◌, ℕ, ◌+◌, ◌^◌, ◌<◌, Bool, List, [], ◌++◌, length, flat_map, Option, Some, None, Result, Ok, Err, nat_lt, if◌then◌else◌}
use Rattle.std.specs.List.{AllByRecursion}
use Rattle.scp_quorum.specs.scp_types.specs.declared.fault.Fault.{Fault}
use Rattle.scp_quorum.specs.scp_types.specs.declared.fault.Fault.TheVariants as fault
use Rattle.scp_device.specs.Device.{Loses, HasEnded}
use Rattle.scp_quorum.specs.scp_xdr.specs.Kind.{Values, word}
use Rattle.scp_quorum.specs.scp_xdr.specs.Reading.{reading_whole}
use Rattle.scp_archive.specs.declared.entries.TheConstants.{RECORD_LIMIT}
use Rattle.scp_archive.specs.declared.entries.Next.{Next}
use Rattle.scp_archive.specs.declared.entries.Next.TheVariants.{Entry, Unread as Passed, End, Cut}
use Rattle.scp_archive.specs.declared.entries.Unread.{Unread}
use Rattle.scp_archive.specs.declared.entries.Unread.TheVariants.{Fragment, TooLong, Malformed}
use Rattle.scp_archive.specs.Entry.{entry_kind, entry_value}

-- a record as it lies in a stream: whether it ends with this fragment, and the fragment's bytes
pub record Framed : Type 0 where
  pub is_last : Bool
  pub body : List ℕ

-- its length has 31 bits
abbrev pub IsFramed : Framed → Type 0
IsFramed r = length r.body < 2 ^ 31

-- a mark: the high bit says that the record ends with this fragment, the other 31 bits how many bytes the fragment has (RFC 5531, section 11)
abbrev pub mark : Bool → ℕ → List ℕ
mark is_last n = word (if is_last then 2 ^ 31 + n else n)

-- the bytes of a record: its mark, and then its fragment
abbrev pub framed : Framed → List ℕ
framed r = mark r.is_last (length r.body) ++ r.body

-- the bytes are these records, one after another, and what is left
pub record IsStream (bytes : List ℕ) (records : List Framed) (left : List ℕ) : Type 0 where
  pub in_range : AllByRecursion IsFramed records
  pub split : bytes ≡ flat_map framed records ++ left

-- the bytes begin with no whole record
abbrev pub HasNoRecord : List ℕ → Type 0
HasNoRecord bytes = (r : Framed) (rest : List ℕ) → IsFramed r → bytes ≡ framed r ++ rest → ⊥

-- ---- what is read of a record

-- why bytes aren't an entry: malformed at a place, or a count, a length or a depth over its limit
abbrev pub unread_by : Fault → Unread
unread_by (fault.Malformed place) = Malformed place
unread_by f = TooLong

-- the value that the bytes encode, or why they encode none
abbrev pub value_read : Result (Values entry_kind) Fault → Result (Values entry_kind) Unread
value_read (Ok v) = Ok v
value_read (Err f) = Err (unread_by f)

-- What is read of a record: the entry that its bytes encode, or the first that fits: it isn't one whole fragment, it has over 16 MiB,
-- its bytes encode no entry, by their first fault.
abbrev pub read_of : Framed → Result (Values entry_kind) Unread
read_of r = if r.is_last then (if nat_lt RECORD_LIMIT (length r.body) then Err TooLong else value_read (reading_whole entry_kind r.body)) else Err Fragment

-- the next record is taken off what is left, and this is read of it
abbrev pub TakesRecord : Option (List ℕ) → Result (Values entry_kind) Unread → Option (List ℕ) → Type 0
TakesRecord old read new = (r : Framed) × IsFramed r × Loses old (framed r) new × (read_of r ≡ read)

-- bytes are left, where that is known, and no whole record is
abbrev pub IsCutShort : Option (List ℕ) → Type 0
IsCutShort None = Unit {0}
IsCutShort (Some left) = (left ≡ [] → ⊥) × HasNoRecord left

-- all of what is left is taken, where that is known
abbrev pub TakesAll : Option (List ℕ) → Option (List ℕ) → Type 0
TakesAll None new = Unit {0}
TakesAll (Some old) new = new ≡ Some []

-- What a call takes off what is left: an entry, or a record that is passed over. At the end nothing is left, and a cut stream has bytes left
-- that are no whole record; all of them are taken.
abbrev pub Takes : Option (List ℕ) → Next → Option (List ℕ) → Type 0
Takes old (Entry e) new = TakesRecord old (Ok (entry_value e)) new
Takes old (Passed why) new = TakesRecord old (Err why) new
Takes old End new = HasEnded old × TakesAll old new
Takes old Cut new = IsCutShort old × TakesAll old new
