-- The report on archives: its lines, and its text.
use Rattle.std.specs.Prelude.{◌≡◌, ◌+◌, ◌-◌, ◌++◌, ◌∷◌, [], ℕ, Bool, true, false, not, List, length, filter, flat_map}
use Rattle.std.specs.List.{list_any}
use Rattle.scp_shown.specs.scp_audit.specs.declared.archive.Archive.{Archive}
use Rattle.scp_shown.specs.scp_history.specs.Lines.{line_text}
use Rattle.scp_shown.specs.scp_history.specs.Records.{archive_lines}
use Rattle.scp_shown.specs.scp_history.specs.declared.line.Line.{Line}
use Rattle.scp_shown.specs.scp_history.specs.declared.line.Line.TheVariants.{Unread, Cut, Value, Uncertified, Unbacked, Split, Against, Message, Silent, Contradicts, End}
use Rattle.scp_shown.specs.LedgerLines.{AreLedgerLines}
use Rattle.scp_shown.specs.Parts.{Entry}
use Rattle.scp_ledgers.specs.Entries.{entries_of, numbers_of, of_ledger}
use Rattle.scp_ledgers.specs.declared.span.Span.{Span}

-- the lines of archives' records that aren't read, by the numbers of the archives from this one on
abbrev pub record_lines : ℕ → List Archive → List Line
record_lines file [] = []
record_lines file (a ∷ rest) = archive_lines file a ++ record_lines (file + 1) rest

-- the lines of each of these ledgers, by their entries
abbrev pub AreEach : (ℕ → List Entry) → List ℕ → List (List Line) → Type 0
AreEach entries [] each = each ≡ []
AreEach entries (n ∷ ns) each = (lines : List Line) × (rest : List (List Line)) × AreLedgerLines n (entries n) lines × AreEach entries ns rest × (each ≡ lines ∷ rest)

-- the line says that a ledger isn't certified for all: a node that externalizes it is uncertified, or it is split
abbrev pub is_alarm : Line → Bool
is_alarm (Unread file number why) = false
is_alarm (Cut file number) = false
is_alarm (Value ledger value counts) = false
is_alarm (Uncertified ledger nodes) = true
is_alarm (Unbacked ledger nodes) = false
is_alarm (Split ledger sides) = true
is_alarm (Against ledger node statement value) = false
is_alarm (Message ledger place verdict hash node) = false
is_alarm (Silent ledger nodes) = false
is_alarm (Contradicts ledger node first last) = false
is_alarm (End sums) = false

-- a ledger of these lines is certified for all
abbrev pub is_for_all : List Line → Bool
is_for_all lines = not (list_any is_alarm lines)

-- the last of these numbers
abbrev pub last_from : ℕ → List ℕ → ℕ
last_from n [] = n
last_from n (m ∷ ms) = last_from m ms

-- The line at the end, if there are ledgers: the first and the last number, how many between them are missing, how many ledgers there are, and how
-- many of them are certified for all.
abbrev pub end_lines : List ℕ → ℕ → List Line
end_lines [] certified = []
end_lines (n ∷ ns) certified = End (record { first = n; last = last_from n ns; missing = (last_from n ns - n) - length ns; ledgers = length (n ∷ ns); certified = certified }) ∷ []

-- The lines of a report on archives: those of the records that aren't read, those of each ledger that is shown, ascending, and the last one.
pub record IsReport (span : Span) (archives : List Archive) (lines : List Line) : Type 0 where
  pub each : List (List Line)
  pub of_ledgers : AreEach (of_ledger (entries_of span archives)) (numbers_of (entries_of span archives)) each
  pub all : lines ≡ (record_lines 1 archives ++ flat_map (λ (l : List Line). l) each) ++ end_lines (numbers_of (entries_of span archives)) (length (filter is_for_all each))

-- the text of a report
abbrev pub report_text : Bool → List Line → List ℕ
report_text by_number lines = flat_map (line_text by_number) lines
