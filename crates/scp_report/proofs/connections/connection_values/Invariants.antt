use Rattle.std.proofs.Common.{◌≡◌, map}
use Rattle.serde_json.specs.View.{view}
use Rattle.scp_report.specs.Json.{connection_json}
use Rattle.scp_report.proofs.connections.connection_values.Given as goal

-- those so far
abbrev pub invariant-loop-conn : goal.invariant-loop-conn
invariant-loop-conn l = map view l.values.items ≡ map (connection_json l.journal l.parked) (map (λ c. c.now) l.yielded)
