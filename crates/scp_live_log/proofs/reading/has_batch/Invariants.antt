use Rattle.std.proofs.Common.{◌↔◌, length}
use Rattle.scp_live_log.specs.Log.{HasBatch}
use Rattle.scp_live_log.proofs.reading.has_batch.Given as goal

abbrev pub invariant-loop-rest : goal.invariant-loop-rest
invariant-loop-rest l = HasBatch l.rest ↔ HasBatch l.bytes

abbrev pub decreases-loop-rest : goal.decreases-loop-rest
decreases-loop-rest l = length l.rest
