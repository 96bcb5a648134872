-- What follows from the definitions.
use Rattle.std.specs.Prelude.{◌≡◌, List, [], ◌∷◌, ◌++◌, ℕ}
use Rattle.scp_archive.specs.declared.entry.Entry.{Entry}
use Rattle.scp_archive.specs.Entry.{entry_value}
use Rattle.scp_archive.specs.Stream.{Framed, IsFramed, framed, IsStream, HasNoRecord}

-- no record begins another, and bytes begin with one record at most
abbrev pub RecordsAreApart : Type 0
RecordsAreApart = (r s : Framed) (x y : List ℕ) → IsFramed r → IsFramed s → framed r ++ x ≡ framed s ++ y → (r ≡ s) × (x ≡ y)

-- no bytes have no record
abbrev pub NothingHasNoRecord : Type 0
NothingHasNoRecord = HasNoRecord []

-- bytes are one list of records, and one rest that begins with none
abbrev pub StreamIsOneList : Type 0
StreamIsOneList = (bytes : List ℕ) (rs ss : List Framed) (x y : List ℕ) → IsStream bytes rs x → IsStream bytes ss y → HasNoRecord x → HasNoRecord y → (rs ≡ ss) × (x ≡ y)

-- before anything is read, all is left
abbrev pub StreamBegins : Type 0
StreamBegins = (bytes : List ℕ) → IsStream bytes [] bytes

-- what holds of the records so far and the rest holds of one record more and what follows it
abbrev pub StreamGrows : Type 0
StreamGrows = (bytes : List ℕ) (rs : List Framed) (r : Framed) (left : List ℕ) → IsStream bytes rs (framed r ++ left) → IsFramed r → IsStream bytes (rs ++ r ∷ []) left

-- entries of one value have the same ledger, the same quorum sets and the same messages, each in the same order
pub record AreSameEntry (e f : Entry) : Type 0 where
  pub ledger : e.ledger ≡ f.ledger
  pub sets : e.sets.items ≡ f.sets.items
  pub messages : e.messages.items ≡ f.messages.items

-- an entry is its value, but for the memory that it is in
abbrev pub EntryIsItsValue : Type 0
EntryIsItsValue = (e f : Entry) → entry_value e ≡ entry_value f → AreSameEntry e f
