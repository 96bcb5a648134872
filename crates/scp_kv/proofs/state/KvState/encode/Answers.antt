use Rattle.std.proofs.Common.{◌≡◌, sym, subst, arith}
use Rattle.std.proofs.lemmas.Grind.{common_steps}
use Rattle.std.proofs.lemmas.Result.{err_from_is_err_and}
use Rattle.std.specs.FinMap as finite
use Rattle.scp_xdr.specs.Kind.{Values, Fits}
use Rattle.scp_kv.specs.Saved.{state_kind}
use Rattle.scp_kv.proofs.Bytes.{writing_more, not_fitting, too_long_still}
use Rattle.scp_kv.proofs.state.KvState.encode.Goals as goal

pub loop-key-preserved : goal.loop-key-preserved
loop-key-preserved c =
    writing_more c.into_iter-key-iterator.result c.loop-key.key-iterator c.next.new.self (c.in-Some.key.now, c.in-Some.value.now) c.loop-key.writer c.write_entry.new.writer
    c.in-Some.ensures.steps c.in_ok-write_entry.ensures.fits c.in_ok-write_entry.ensures.written c.loop-key.invariant

pub returns-in_err-write_entry-clause-too_long : goal.returns-in_err-write_entry-clause-too_long
returns-in_err-write_entry-clause-too_long c =
    let all : c.into_iter-key-iterator.result ≡ finite.entries c.args.self.now = grind (arith, common_steps) in
    let p = err_from_is_err_and c.from_residual-in_err-write_entry.result c.from_residual-in_err-write_entry.ensures.1 in
    rw (p.1, p.2) (λ is fits.
    not_fitting c.into_iter-key-iterator.result c.loop-key.key-iterator c.next.new.self (c.in-Some.key.now, c.in-Some.value.now) c.loop-key.writer
    c.in-Some.ensures.steps (c.in_err-write_entry.ensures.too_long (too_long_still _ c.in_err-write_entry.field-0.0 is)) c.loop-key.invariant (subst (λ (es : Values state_kind). Fits state_kind es) (sym all) fits))
