use Rattle.std.proofs.Common.{◌≡◌, ◌≤◌, ◌++◌, map, drop}
use Rattle.serde_json.specs.View.{view}
use Rattle.scp_account.specs.Entries.{entry_json}
use Rattle.scp_account.proofs.taken.add_entries.Given as goal

-- with what is left it is all
abbrev pub invariant-loop-index : goal.invariant-loop-index
invariant-loop-index l = map view l.values.items ++ map entry_json (drop l.index l.journal) ≡ map view l.initial.values.items ++ map entry_json (drop l.place l.journal)
