use Rattle.std.proofs.Common.{◌≡◌, ◌++◌, map}
use Rattle.serde_json.specs.View.{view}
use Rattle.scp_report.specs.Json.{state_json}
use Rattle.scp_report.proofs.applied.state_values.Given as goal

-- with what is left it is all
abbrev pub invariant-loop-key : goal.invariant-loop-key
invariant-loop-key l = map view l.values.items ++ map state_json l.key-iterator ≡ map state_json l.initial.key-iterator
