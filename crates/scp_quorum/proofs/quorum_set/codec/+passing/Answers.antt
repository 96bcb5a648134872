use Rattle.std.proofs.Common.{◌<◌, ◌-◌, arith, ◌∙◌}
use Rattle.std.proofs.lemmas.Result.{err_from_is_err_and}
use Rattle.scp_xdr.specs.Passing.{pass_items}
use Rattle.scp_xdr.proofs.Loops.{pass_goes_on, pass_ends, pass_is_done}
use Rattle.scp_quorum.proofs.Inner.{pass_set_at, pass_none, pass_deep, pass_some, pass_refused}
use Rattle.scp_quorum.proofs.quorum_set.codec.+passing.Goals as goal

pub pass_inner-returns-in_err-count : goal.pass_inner-returns-in_err-count
pass_inner-returns-in_err-count t c =
    let p = err_from_is_err_and c.from_residual.result c.from_residual.ensures.1 in
    rw (p.1, p.2) (pass_deep c.args.levels c.args.reader.now c.in_err-count.field-0.0 c.if-levels-eq0.true c.in_err-count.ensures.0)

pub pass_inner-returns-then-levels-eq0 : goal.pass_inner-returns-then-levels-eq0
pass_inner-returns-then-levels-eq0 t c = pass_none c.args.levels c.args.reader.now c.in_ok-count.field-0 c.count.new.self c.if-levels-eq0.true c.in_ok-count.ensures

pub pass_inner-returns-in_err-count-2 : goal.pass_inner-returns-in_err-count-2
pass_inner-returns-in_err-count-2 t c =
    let p = err_from_is_err_and c.from_residual-in_err-count-2.result c.from_residual-in_err-count-2.ensures.1 in
    let some : 0 < c.args.levels = omega (arith, c.if-levels-eq0.false) in
    rw (p.1, p.2) (pass_refused c.args.levels c.args.reader.now c.in_err-count-2.field-0.0 some c.in_err-count-2.ensures.0)

pub pass_inner-returns-in_err-pass_set : goal.pass_inner-returns-in_err-pass_set
pass_inner-returns-in_err-pass_set t c =
    let p = err_from_is_err_and c.from_residual-in_err-pass_set.result c.from_residual-in_err-pass_set.ensures.1 in
    let some : 0 < c.args.levels = omega (arith, c.if-levels-eq0.false) in
    rw (p.1, p.2)
    (pass_some c.args.levels c.args.reader.now c.in_ok-count-2.count c.count-2.new.self some c.in_ok-count-2.ensures
    ∙ pass_ends (pass_set_at (c.args.levels - 1)) c.in_ok-count-2.count c.loop.counter c.loop.reader c.in_err-pass_set.field-0.0 (pass_items (pass_set_at (c.args.levels - 1)) c.in_ok-count-2.count c.count-2.new.self) c.loop-test.true c.in_err-pass_set.ensures c.loop.invariant)

pub pass_inner-loop-preserved : goal.pass_inner-loop-preserved
pass_inner-loop-preserved t c =
    pass_goes_on (pass_set_at (c.args.levels - 1)) c.in_ok-count-2.count c.loop.counter c.loop.reader c.pass_set.new.reader (pass_items (pass_set_at (c.args.levels - 1)) c.in_ok-count-2.count c.count-2.new.self) c.loop-test.true c.in_ok-pass_set.ensures c.loop.invariant

pub pass_inner-returns : goal.pass_inner-returns
pass_inner-returns t c =
    let some : 0 < c.args.levels = omega (arith, c.if-levels-eq0.false) in
    pass_some c.args.levels c.args.reader.now c.in_ok-count-2.count c.count-2.new.self some c.in_ok-count-2.ensures
    ∙ pass_is_done (pass_set_at (c.args.levels - 1)) c.in_ok-count-2.count c.loop.counter c.loop.reader (pass_items (pass_set_at (c.args.levels - 1)) c.in_ok-count-2.count c.count-2.new.self) c.loop-test.false c.loop.invariant
