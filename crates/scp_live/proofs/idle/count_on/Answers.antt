use Rattle.std.proofs.Common.{◌∙◌, set, take, arith}
use Rattle.scp_live.specs.Idle.{idle_in}
use Rattle.scp_live.proofs.Counting.{added, added_few, mixed_more}
use Rattle.scp_live.proofs.idle.count_on.Goals as goal

pub loop-place-preserved : goal.loop-place-preserved
loop-place-preserved c =
    let sum = added c.args.journal.now c.behind-fresh.result.now c.args.before c.idle_in.result c.args.peers.now c.loop-place.place _ c.loop-place.counts c.loop-place-test.true c.loop-place.invariant c.behind-fresh.ensures c.idle_in.ensures in
    (λ i. set (c.loop-place.invariant i) c.loop-place.place (sum i)) ∙ mixed_more (idle_in c.args.journal.now) (idle_in (take c.args.before c.args.journal.now)) c.args.peers.now c.loop-place.place _ c.loop-place-test.true

pub overflow_add-counts : goal.overflow_add-counts
overflow_add-counts c =
    let few = added_few c.args.journal.now c.behind-fresh.result.now c.args.before c.idle_in.result c.args.peers.now c.loop-place.place _ c.loop-place.counts c.loop-place-test.true c.loop-place.invariant c.behind-fresh.ensures c.idle_in.ensures in
    omega (arith, few)
