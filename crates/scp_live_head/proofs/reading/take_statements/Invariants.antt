use Rattle.std.proofs.Common.{length, map}
use Rattle.scp_live_head.proofs.Statements.{IsReading}
use Rattle.scp_live_head.proofs.reading.take_statements.Given as goal

abbrev pub invariant-loop-statements : goal.invariant-loop-statements
invariant-loop-statements l = IsReading l.bytes (map (λ b. b.items) l.statements.items) l.rest

abbrev pub decreases-loop-statements : goal.decreases-loop-statements
decreases-loop-statements l = length l.rest
