-- Entries that are grouped by their ledgers.
use Rattle.std.specs.Prelude.{ℕ, List, [], Option, Some, None, map}
use Rattle.std.proofs.Common.{Vec}
use Rattle.std.specs.Ordering.{nat_cmp}
use Rattle.std.specs.BTreeMap.{BTreeMap, get}
use Rattle.scp_shown.specs.Parts.{Entry, entry_of}
use Rattle.scp_shown.specs.declared.part.Part.{Part}

-- the entries that were found, or none
abbrev pub entries_or_none : {Z : Type 0} → Option (Vec Part Z) → List Entry
entries_or_none (Some ps) = map entry_of ps.items
entries_or_none None = []

-- the entries of a ledger, among those that are grouped
abbrev pub entries_at : {Z : Type 0} → BTreeMap ℕ (Vec Part Z) → ℕ → List Entry
entries_at grouped n = entries_or_none (get nat_cmp grouped n)
