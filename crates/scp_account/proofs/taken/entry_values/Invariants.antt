use Rattle.std.proofs.Common.{◌≡◌, ◌++◌, map, drop}
use Rattle.serde_json.specs.View.{view}
use Rattle.scp_account.specs.Entries.{entry_json}
use Rattle.scp_account.proofs.taken.entry_values.Given as goal

-- with what is left it is all
abbrev pub invariant-loop-fate : goal.invariant-loop-fate
invariant-loop-fate l = map view l.values.items ++ map entry_json (drop l.fate-index l.journal) ≡ map entry_json l.journal
