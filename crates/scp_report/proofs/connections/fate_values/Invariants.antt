use Rattle.std.proofs.Common.{◌≡◌, ◌++◌, map, drop}
use Rattle.serde_json.specs.View.{view}
use Rattle.scp_report.specs.Json.{fate_json}
use Rattle.scp_report.proofs.connections.fate_values.Given as goal

-- with what is left it is all
abbrev pub invariant-loop-fate : goal.invariant-loop-fate
invariant-loop-fate l = map view l.values.items ++ map fate_json (map (λ fate. fate.now) (drop l.fate-index l.fates)) ≡ map fate_json (map (λ fate. fate.now) l.fates)
