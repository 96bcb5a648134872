use Rattle.std.proofs.Common.{◌≡◌, drop}
use Rattle.scp_report.specs.Json.{parked_on}
use Rattle.scp_report.proofs.connections.parked_on.Given as goal

-- what is left tells it
abbrev pub invariant-loop-waiting : goal.invariant-loop-waiting
invariant-loop-waiting l = parked_on (drop l.waiting-index l.parked) l.conn ≡ parked_on l.parked l.conn
