use Rattle.std.proofs.lemmas.Result.{err_from_is_err_and}
use Rattle.scp_threaded_node.proofs.make.make_stages.Goals as goal

pub returns-in_err-pend-clause-only_memory : goal.returns-in_err-pend-clause-only_memory
returns-in_err-pend-clause-only_memory g c =
    let p = err_from_is_err_and c.from_residual-in_err-pend.result c.from_residual-in_err-pend.ensures.1 in
    rw (p.1, p.2) c.in_err-pend.ensures.only_memory
