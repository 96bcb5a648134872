use Rattle.std.proofs.lemmas.Result.{err_from_is_err_and}
use Rattle.scp_kv.proofs.Bytes.{gives_none, gives_state, found_of}
use Rattle.scp_kv.proofs.state.KvState.decode.Goals as goal

pub returns-in_err-entries-clause-exact : goal.returns-in_err-entries-clause-exact
returns-in_err-entries-clause-exact c =
    let p = err_from_is_err_and c.from_residual.result c.from_residual.ensures.1 in
    rw (p.1, p.2) (gives_none c.args.bytes.now c.in_err-entries.field-0.0 c.in_err-entries.ensures.exact)

pub returns-clause-exact : goal.returns-clause-exact
returns-clause-exact c = gives_state c.args.bytes.now _ c.in_order.result c.in_ok-entries.ensures.exact c.in_order.ensures

pub returns-clause-found : goal.returns-clause-found
returns-clause-found c = found_of c.args.bytes.now _ c.in_order.result c.in_ok-entries.ensures.found c.in_order.ensures
