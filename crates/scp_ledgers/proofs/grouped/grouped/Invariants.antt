use Rattle.std.proofs.Common.{◌≡◌, ℕ, map, take}
use Rattle.scp_shown.specs.Parts.{entry_of}
use Rattle.scp_ledgers.specs.Entries.{of_ledger}
use Rattle.scp_ledgers.specs.inside.Grouped.{entries_at}
use Rattle.scp_ledgers.proofs.grouped.grouped.Given as goal

-- of the entries so far
abbrev pub invariant-loop-part : goal.invariant-loop-part
invariant-loop-part l = (n : ℕ) → entries_at l.grouped n ≡ of_ledger (map entry_of (take l.part-index l.parts)) n
