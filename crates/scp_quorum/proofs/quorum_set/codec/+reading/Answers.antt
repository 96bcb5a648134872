use Rattle.std.proofs.Common.{◌≡◌, ◌<◌, ◌-◌, ◌++◌, ◌∷◌, [], Ok, arith, ◌∙◌, ap}
use Rattle.std.specs.Prelude.{map}
use Rattle.std.proofs.lemmas.Result.{err_from_is_err_and}
use Rattle.std.proofs.lemmas.List.{map_push}
use Rattle.scp_xdr.specs.Tree.{Tree}
use Rattle.scp_xdr.specs.Kind.{Values}
use Rattle.scp_xdr.specs.Reading.{read_items}
use Rattle.scp_xdr.proofs.Loops.{goes_on, ends, is_done}
use Rattle.scp_xdr.specs.Shared.{node_value}
use Rattle.scp_quorum.specs.QuorumKind.{level_kind, set_value}
use Rattle.scp_quorum.proofs.Inner.{set_at, inner_none, inner_deep, inner_some, inner_refused, set_read}
use Rattle.scp_quorum.proofs.Whole.{set_is}
use Rattle.scp_quorum.proofs.quorum_set.codec.+reading.Goals as goal

pub read_inner-returns-in_err-count : goal.read_inner-returns-in_err-count
read_inner-returns-in_err-count t c =
    let p = err_from_is_err_and c.from_residual.result c.from_residual.ensures.1 in
    rw (p.1, p.2) (λ other. inner_deep c.args.levels c.args.reader.now c.in_err-count.field-0.0 c.if-levels-eq0.true c.in_err-count.ensures.0)

pub read_inner-returns-then-levels-eq0 : goal.read_inner-returns-then-levels-eq0
read_inner-returns-then-levels-eq0 t c = rw c.new.ensures.items (inner_none c.args.levels c.args.reader.now c.in_ok-count.field-0 c.count.new.self c.if-levels-eq0.true c.in_ok-count.ensures)

pub read_inner-returns-in_err-count-2 : goal.read_inner-returns-in_err-count-2
read_inner-returns-in_err-count-2 t c =
    let p = err_from_is_err_and c.from_residual-in_err-count-2.result c.from_residual-in_err-count-2.ensures.1 in
    let some : 0 < c.args.levels = omega (arith, c.if-levels-eq0.false) in
    rw (p.1, p.2) (λ other. inner_refused c.args.levels c.args.reader.now c.in_err-count-2.field-0.0 some c.in_err-count-2.ensures.0)

pub read_inner-returns-in_err-set : goal.read_inner-returns-in_err-set
read_inner-returns-in_err-set t c =
    let p = err_from_is_err_and c.from_residual-in_err-set.result c.from_residual-in_err-set.ensures.1 in
    let some : 0 < c.args.levels = omega (arith, c.if-levels-eq0.false) in
    let whole = inner_some c.args.levels c.args.reader.now c.in_ok-count-2.count c.count-2.new.self some c.in_ok-count-2.ensures in
    rw (p.1, p.2)
    (λ other. whole
    ∙ ends (set_at (c.args.levels - 1)) (map set_value c.loop.sets.items) c.in_ok-count-2.count c.loop.counter c.loop.reader _ (read_items (set_at (c.args.levels - 1)) c.in_ok-count-2.count c.count-2.new.self) c.loop-test.true (c.in_err-set.ensures other) c.loop.invariant)

pub read_inner-loop-preserved : goal.read_inner-loop-preserved
read_inner-loop-preserved t c =
    let e : map set_value c.push.new.self.items ≡ map set_value c.loop.sets.items ++ set_value c.in_ok-set.set ∷ [] = rw c.in_ok-push.ensures.items (map_push set_value c.loop.sets.items c.in_ok-set.set) in
    rw e
    (goes_on (set_at (c.args.levels - 1)) (map set_value c.loop.sets.items) c.in_ok-count-2.count c.loop.counter c.loop.reader (set_value c.in_ok-set.set) c.read_set.new.reader (read_items (set_at (c.args.levels - 1)) c.in_ok-count-2.count c.count-2.new.self) c.loop-test.true c.in_ok-set.ensures c.loop.invariant)

pub read_inner-returns : goal.read_inner-returns
read_inner-returns t c =
    let some : 0 < c.args.levels = omega (arith, c.if-levels-eq0.false) in
    inner_some c.args.levels c.args.reader.now c.in_ok-count-2.count c.count-2.new.self some c.in_ok-count-2.ensures
    ∙ is_done (set_at (c.args.levels - 1)) (map set_value c.loop.sets.items) c.in_ok-count-2.count c.loop.counter c.loop.reader (read_items (set_at (c.args.levels - 1)) c.in_ok-count-2.count c.count-2.new.self) c.loop-test.false c.loop.invariant

pub read_set-returns : goal.read_set-returns
read_set-returns t c =
    let vs = c.in_ok-threshold.validators.items in
    let qs = c.in_ok-inner_sets.inner_sets.items in
    set_read c.args.levels c.args.reader.now (c.in_ok-threshold.threshold, map node_value vs) c.read_level.new.reader (map set_value qs) c.read_inner.new.reader c.in_ok-threshold.ensures c.in_ok-inner_sets.ensures
    ∙ ap (λ (q : Tree (Values level_kind)). Ok (q, c.read_inner.new.reader)) (set_is c.in_ok-threshold.threshold vs qs)
