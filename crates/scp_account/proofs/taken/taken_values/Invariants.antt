use Rattle.std.proofs.Common.{◌≡◌, ◌++◌, map, drop}
use Rattle.serde_json.specs.View.{view}
use Rattle.scp_facts.specs.Taken.{in_order}
use Rattle.scp_account.specs.Commands.{command_json}
use Rattle.scp_account.specs.Entries.{entry_json}
use Rattle.scp_account.specs.Taken.{taken_json}
use Rattle.scp_account.specs.inside.Happened.{happened}
use Rattle.scp_account.proofs.taken.taken_values.Given as goal

-- with what is left it is all
abbrev pub invariant-loop-happening : goal.invariant-loop-happening
invariant-loop-happening l = map view l.values.items ++ in_order entry_json command_json (happened (drop l.happening-index l.happenings)) (drop l.entry l.journal) ≡ taken_json l.journal (happened l.happenings)
