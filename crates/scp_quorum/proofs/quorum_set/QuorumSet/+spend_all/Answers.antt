use Rattle.std.proofs.Common.{◌≡◌, ◌+◌, ◌<◌, take, ap, arith}
use Rattle.std.specs.List.{sum_by}
use Rattle.std.proofs.lemmas.Grind.{common_steps}
use Rattle.scp_xdr.proofs.Spending.{past_room}
use Rattle.scp_quorum.proofs.Whole.{set_len, made_len, nodes_len}
use Rattle.scp_quorum.proofs.quorum_set.QuorumSet.+spend_all.Goals as goal

pub returns-in_err-left-4 : goal.returns-in_err-left-4
returns-in_err-left-4 t c =
    let qs = c.self.inside.inner_sets.items in
    let vs = c.self.inside.validators.items in
    let second : c.in_ok-left.left ≡ c.in_ok-left-2.left + (4 + nodes_len c.deref.result.now) = c.in_ok-left-2.ensures in
    let more : c.in_ok-left-3.left < sum_by set_len c.deref-inner-items.result.now =
    past_room set_len c.deref-inner-items.result.now c.loop-inner.inner-index c.inner-item.result c.in_ok-left-3.left c.loop-inner.left c.loop-inner-test.true c.inner-item.is c.loop-inner.invariant.so_far c.in_err-left-4.ensures
    in
    rw (c.from_residual-in_err-left-4.ensures, ← c.self.view_is)
    (omega (arith, more, second, ap (sum_by set_len) c.deref-inner-items.ensures.value, ap nodes_len c.deref.ensures.value, c.in_ok-left.ensures, c.in_ok-left-3.ensures, made_len c.self.inside.threshold vs qs))

pub returns : goal.returns
returns t c =
    let qs = c.self.inside.inner_sets.items in
    let vs = c.self.inside.validators.items in
    let second : c.in_ok-left.left ≡ c.in_ok-left-2.left + (4 + nodes_len c.deref.result.now) = c.in_ok-left-2.ensures in
    let all : take c.loop-inner.inner-index c.deref-inner-items.result.now ≡ qs = grind (arith, common_steps) in
    rw (← c.self.view_is)
    (omega (arith, second, ap (sum_by set_len) all, ap nodes_len c.deref.ensures.value, c.in_ok-left.ensures, c.in_ok-left-3.ensures, c.loop-inner.invariant.so_far, made_len c.self.inside.threshold vs qs))
