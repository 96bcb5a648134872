use Rattle.std.proofs.Common.{arith}
use Rattle.scp_pending.specs.Queues.{resolved_in, is_hash}
use Rattle.scp_pending.specs.inside.Outcome.{outcome_of}
use Rattle.scp_pending.proofs.Keeping.{went_on, went_stays, went_leaves}
use Rattle.scp_pending.proofs.queue.resolve_all.Goals as goal

pub loop-i-preserved : goal.loop-i-preserved
loop-i-preserved c = went_on (resolved_in (is_hash c.args.hash.now) (outcome_of c.args.outcome.now)) c.loop-i.i c.args.queues.now.items c.loop-i.queues.items c.args.leaving.now.items c.loop-i.leaving.items c.resolve_on.new.leaving.items c.index_mut.result.now c.resolve_on.new.queue c.loop-i.invariant (omega (arith, c.len-i-end.ensures, c.loop-i-test.true)) c.index_mut.ensures.value c.in_ok-resolve_on.ensures.stays c.in_ok-resolve_on.ensures.leaves

pub returns-clause-stays : goal.returns-clause-stays
returns-clause-stays c = went_stays (resolved_in (is_hash c.args.hash.now) (outcome_of c.args.outcome.now)) c.loop-i.i c.args.queues.now.items c.loop-i.queues.items c.args.leaving.now.items c.loop-i.leaving.items c.loop-i.invariant (omega (arith, c.len-i-end.ensures, c.loop-i-test.false))

pub returns-clause-leaves : goal.returns-clause-leaves
returns-clause-leaves c = went_leaves (resolved_in (is_hash c.args.hash.now) (outcome_of c.args.outcome.now)) c.loop-i.i c.args.queues.now.items c.loop-i.queues.items c.args.leaving.now.items c.loop-i.leaving.items c.loop-i.invariant (omega (arith, c.len-i-end.ensures, c.loop-i-test.false))
