use Rattle.std.proofs.Common.{◌≡◌, ◌++◌, map, drop}
use Rattle.serde_json.specs.View.{view}
use Rattle.scp_account.specs.Commands.{fate_json}
use Rattle.scp_account.proofs.commands.fate_values.Given as goal

-- with what is left it is all
abbrev pub invariant-loop-fate : goal.invariant-loop-fate
invariant-loop-fate l = map view l.values.items ++ map fate_json (drop l.fate-index l.fates) ≡ map fate_json l.fates
