use Rattle.std.proofs.Common.{◌≡◌, map, take}
use Rattle.std.specs.BTreeSet.{keys}
use Rattle.scp_shown.specs.Parts.{entry_of}
use Rattle.scp_ledgers.specs.Entries.{numbers_of}
use Rattle.scp_ledgers.proofs.entries.set_of_numbers.Given as goal

-- of the entries so far
abbrev pub invariant-loop-part : goal.invariant-loop-part
invariant-loop-part l = keys l.numbers ≡ numbers_of (map entry_of (take l.part-index l.parts))
