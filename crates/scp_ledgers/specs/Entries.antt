-- The entries of archives, and those of one ledger among them.
use Rattle.std.specs.Prelude.{◌+◌, ◌++◌, ◌∷◌, [], ◌&&◌, ℕ, Bool, List, cond, map, flat_map, fold, filter, nat_eq, nat_le}
use Rattle.std.specs.Ordering.{nat_cmp}
use Rattle.std.specs.BTreeSet.{insert_key}
use Rattle.scp_shown.specs.scp_audit.specs.declared.archive.Archive.{Archive}
use Rattle.scp_shown.specs.scp_audit.specs.declared.ledger.Ledger.{Ledger as Judged}
use Rattle.scp_shown.specs.scp_audit.specs.declared.archive.Record.{Record}
use Rattle.scp_shown.specs.scp_audit.specs.declared.archive.Record.TheVariants.{Ledger, Unread}
use Rattle.scp_shown.specs.Parts.{Entry}
use Rattle.scp_ledgers.specs.declared.span.Span.{Span}

-- the ledger is one of those that are shown
abbrev pub is_within : Span → Judged → Bool
is_within s l = nat_le s.first l.number && nat_le l.number s.last

-- the entry that a record is, if its ledger is shown
abbrev pub record_entries : Span → ℕ → Record → List Entry
record_entries s file (Ledger l) = cond (is_within s l) ((file, l) ∷ []) []
record_entries s file (Unread why) = []

-- the entries of archives, by their numbers from this one on
abbrev pub entries_from : Span → ℕ → List Archive → List Entry
entries_from s file [] = []
entries_from s file (a ∷ rest) = flat_map (record_entries s file) a.records.items ++ entries_from s (file + 1) rest

-- the entries of the ledgers that are shown, in the order of the archives and of their records
abbrev pub entries_of : Span → List Archive → List Entry
entries_of s archives = entries_from s 1 archives

-- the numbers of their ledgers, ascending, each once
abbrev pub numbers_of : List Entry → List ℕ
numbers_of es = fold (insert_key nat_cmp) [] (map (λ (e : Entry). e.1.number) es)

-- those of one ledger
abbrev pub of_ledger : List Entry → ℕ → List Entry
of_ledger es n = filter (λ (e : Entry). nat_eq e.1.number n) es
