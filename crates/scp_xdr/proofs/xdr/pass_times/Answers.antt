use Rattle.std.proofs.lemmas.Result.{err_from_is_err_and}
use Rattle.scp_xdr.specs.Passing.{passing, pass_items}
use Rattle.scp_xdr.proofs.Loops.{pass_begins, pass_goes_on, pass_ends, pass_is_done}
use Rattle.scp_xdr.proofs.xdr.pass_times.Goals as goal

pub loop-init : goal.loop-init
loop-init g c = pass_begins (λ d. passing g.T.Xdr.kind d) c.args.count c.args.reader.now

pub returns-in_err-pass : goal.returns-in_err-pass
returns-in_err-pass g c =
    let p = err_from_is_err_and c.from_residual.result c.from_residual.ensures.1 in
    rw (p.1, p.2) (pass_ends (λ d. passing g.T.Xdr.kind d) c.args.count c.loop.counter c.loop.reader c.in_err-pass.field-0.0 (pass_items (λ d. passing g.T.Xdr.kind d) c.args.count c.args.reader.now) c.loop-test.true c.in_err-pass.ensures c.loop.invariant)

pub loop-preserved : goal.loop-preserved
loop-preserved g c =
    pass_goes_on (λ d. passing g.T.Xdr.kind d) c.args.count c.loop.counter c.loop.reader c.pass.new.reader (pass_items (λ d. passing g.T.Xdr.kind d) c.args.count c.args.reader.now) c.loop-test.true c.in_ok-pass.ensures c.loop.invariant

pub returns : goal.returns
returns g c = pass_is_done (λ d. passing g.T.Xdr.kind d) c.args.count c.loop.counter c.loop.reader (pass_items (λ d. passing g.T.Xdr.kind d) c.args.count c.args.reader.now) c.loop-test.false c.loop.invariant
