use Rattle.std.proofs.Common.{◌↔◌, ℕ, List, sym, subst}
use Rattle.std.proofs.lemmas.List.{take_rest}
use Rattle.scp_live_log.specs.Log.{HasBatch}
use Rattle.scp_live_log.proofs.Batches.{batch_drop, batch_here}
use Rattle.scp_live_log.proofs.reading.has_batch.Goals as goal

pub loop-rest-preserved : goal.loop-rest-preserved
loop-rest-preserved c =
    subst (λ (l : List ℕ). HasBatch l ↔ HasBatch c.args.bytes.now) (sym (take_rest c.loop-rest.rest.now 1))
    (batch_drop c.loop-rest.rest.now c.args.bytes.now c.in-len1-up.len_at_least c.if-begins_batch.ensures.none c.loop-rest.invariant)

pub returns-then-begins_batch-clause-some : goal.returns-then-begins_batch-clause-some
returns-then-begins_batch-clause-some c = c.loop-rest.invariant.0 (batch_here c.loop-rest.rest.now c.if-begins_batch.ensures.some)
