use Rattle.std.proofs.Common.{◌≡◌, ◌++◌, map, drop}
use Rattle.serde_json.specs.View.{view}
use Rattle.scp_report.specs.Json.{applied_json}
use Rattle.scp_report.proofs.applied.applied_values.Given as goal

-- with what is left it is all
abbrev pub invariant-loop-decision : goal.invariant-loop-decision
invariant-loop-decision l = map view l.values.items ++ map applied_json (drop l.decision-index l.applied) ≡ map applied_json l.applied
