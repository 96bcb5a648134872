use Rattle.std.proofs.Common.{◌<◌, arith}
use Rattle.scp_xdr.specs.inside.TreeModel.{tree_count}
use Rattle.scp_quorum.proofs.Smaller.{inner_is_smaller}
use Rattle.scp_quorum.proofs.quorum.counts.Counts.+add_set.Goals as goal

pub add_set-requires : goal.add_set-requires
add_set-requires t c =
    let smaller : tree_count c.inner-item.result < tree_count c.args.set.now =
    inner_is_smaller c.args.set.now c.inner_sets-inner-items.result.now c.loop-inner.inner-index c.inner-item.result c.loop-inner-test.true c.loop-inner.invariant c.inner-item.is
    in
    (omega (arith, smaller, c.decreases), tt)
