use Rattle.std.proofs.Common.{◌≡◌, ◌++◌, drop, flat_map, map}
use Rattle.scp_shown.specs.Parts.{entry_of}
use Rattle.scp_ledgers.specs.Entries.{record_entries}
use Rattle.scp_ledgers.proofs.entries.add_records.Given as goal

-- with those of what is left they are all
abbrev pub invariant-loop-found : goal.invariant-loop-found
invariant-loop-found l = map entry_of l.parts.items ++ flat_map (record_entries l.span l.file) (drop l.found-index l.records) ≡ map entry_of l.fn.parts.items ++ flat_map (record_entries l.span l.file) l.records
