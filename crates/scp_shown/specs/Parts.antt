-- The entries of one ledger, in the order of the archives and of their records.
use Rattle.std.specs.Prelude.{ℕ, List, map, flat_map}
use Rattle.scp_history.specs.scp_ledger.specs.Journal.{Heard}
use Rattle.scp_history.specs.scp_judged.specs.Verdicts.{heard_of}
use Rattle.scp_history.specs.scp_audit.specs.declared.ledger.Ledger.{Ledger}
use Rattle.scp_shown.specs.declared.part.Part.{Part}

-- what became of an entry, behind the number of its archive
abbrev pub Entry : Type 0
Entry = ℕ × Ledger

-- an entry, apart from memory
abbrev pub entry_of : Part → Entry
entry_of p = (p.file, p.ledger.now)

-- what counts of an entry
abbrev pub counting_of : Entry → List Heard
counting_of e = map heard_of e.1.judged.counting.items

-- what counts of all entries, one after another
abbrev pub all_counting : List Entry → List Heard
all_counting es = flat_map counting_of es
