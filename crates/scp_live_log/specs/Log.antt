-- The bytes of a log (this project's profile).
use Rattle.std.specs.Prelude.{◌≡◌, ◌≢◌, ℕ, List, [], ◌∷◌, ◌++◌, Bool, true, false, codes, length, map}
use Rattle.std.specs.List.{AllByRecursion}
use Rattle.hex.specs.Hex.{encode_lower, IsBytes}
use Rattle.sha2.specs.Sha256.{sha256}

-- A line that was acted on, without its line end, and the digest of what was sent for it.
pub record EntryView : Type 0 where
  pub line : List ℕ
  pub sent : List ℕ

-- A line contains no line end.
abbrev pub IsLine : List ℕ → Type 0
IsLine line = AllByRecursion (λ k. k ≢ 10) line

-- The digest of an entry: the SHA-256 of the digest before it, its line with the line end, and the digest of what was sent.
abbrev pub chained : List ℕ → EntryView → List ℕ
chained before e = sha256 (before ++ e.line ++ (10 ∷ []) ++ e.sent)

-- The first entry of a batch is marked by `+`, every other entry by a space.
abbrev pub mark_of : Bool → ℕ
mark_of true = 43
mark_of false = 32

-- An entry as two lines. The first is the mark and the line that was acted on. The second is `= `, the digest of what was sent, a space,
-- and the entry's own digest; each digest has 64 hexadecimal digits.
abbrev pub spelled_entry : List ℕ → Bool → EntryView → List ℕ
spelled_entry before begins e =
    (mark_of begins ∷ e.line ++ 10 ∷ []) ++ (codes "= " ++ (encode_lower e.sent ++ 32 ∷ (encode_lower (chained before e) ++ 10 ∷ [])))

-- An entry, and whether it is the first of its batch.
pub record Marked : Type 0 where
  pub begins : Bool
  pub entry : EntryView

-- The bytes of these entries. Each entry's digest includes the digest before it.
abbrev pub spelled : List ℕ → List Marked → List ℕ
spelled before [] = []
spelled before (m ∷ ms) = spelled_entry before m.begins m.entry ++ spelled (chained before m.entry) ms

-- The digest of the last entry, or the digest before them if there are none.
abbrev pub last_digest : List ℕ → List Marked → List ℕ
last_digest before [] = before
last_digest before (m ∷ ms) = last_digest (chained before m.entry) ms

-- A log is its first line followed by entries. The first entry's digest includes the digest of the first line.
abbrev pub log_of : List ℕ → List Marked → List ℕ
log_of header ms = header ++ spelled (sha256 header) ms

-- The entries with their marks: the first one is marked by b, the others as not first.
abbrev pub marked_from : Bool → List EntryView → List Marked
marked_from b [] = []
marked_from b (e ∷ es) = record { begins = b; entry = e } ∷ marked_from false es

-- The entries of one batch with their marks.
abbrev pub batch_of : List EntryView → List Marked
batch_of es = marked_from true es

-- A digest has 32 bytes.
pub record IsDigest (hash : List ℕ) : Type 0 where
  pub size : length hash ≡ 32
  pub bytes : IsBytes hash

-- The line contains no line end, and what was sent has a digest of 32 bytes.
pub record IsEntry (e : EntryView) : Type 0 where
  pub line : IsLine e.line
  pub sent : IsDigest e.sent

-- Each of them is an entry.
abbrev pub AreEntries : List Marked → Type 0
AreEntries ms = AllByRecursion (λ m. IsEntry m.entry) ms

-- The entries without their marks.
abbrev pub entries_of : List Marked → List EntryView
entries_of ms = map (λ m. m.entry) ms

-- After this digest, no entry is at the front of these bytes.
abbrev pub HasNoEntry : List ℕ → List ℕ → Type 0
HasNoEntry before bytes = (begins : Bool) (e : EntryView) (rest : List ℕ) → IsEntry e → bytes ≡ spelled_entry before begins e ++ rest → ⊥

-- A further batch begins in these bytes: somewhere a line end is followed by `+`.
pub record HasBatch (bytes : List ℕ) : Type 0 where
  pub front : List ℕ
  pub rest : List ℕ
  pub splits : bytes ≡ front ++ 10 ∷ 43 ∷ rest
