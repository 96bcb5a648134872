use Rattle.std.proofs.Common.{◌≡◌, ◌+◌, ◌++◌, drop, map}
use Rattle.scp_shown.specs.Parts.{entry_of}
use Rattle.scp_ledgers.specs.Entries.{entries_from}
use Rattle.scp_ledgers.proofs.entries.parts_of.Given as goal

-- with those of what is left they are all
abbrev pub invariant-loop-at : goal.invariant-loop-at
invariant-loop-at l = map entry_of l.parts.items ++ entries_from l.span (l.at + 1) (drop l.at l.archives) ≡ entries_from l.span 1 l.archives
