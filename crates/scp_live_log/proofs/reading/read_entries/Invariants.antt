use Rattle.std.proofs.Common.{length}
use Rattle.scp_live_log.proofs.Walking.{IsReading}
use Rattle.scp_live_log.proofs.reading.read_entries.Given as goal

abbrev pub invariant-loop-entries : goal.invariant-loop-entries
invariant-loop-entries l = IsReading l.fn.before.0 l.bytes l.entries.items l.last.0 l.rest

abbrev pub decreases-loop-entries : goal.decreases-loop-entries
decreases-loop-entries l = length l.rest
