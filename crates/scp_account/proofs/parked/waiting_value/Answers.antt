use Rattle.std.proofs.Common.{subst, sym}
use Rattle.std.proofs.lemmas.Result.{err_from_is_err_and}
use Rattle.scp_line.specs.scp_wire.specs.Fitting.{IsFitting}
use Rattle.scp_account.proofs.parked.waiting_value.Goals as goal

pub returns-in_err-bytes-clause-only_memory : goal.returns-in_err-bytes-clause-only_memory
returns-in_err-bytes-clause-only_memory c =
    let p = err_from_is_err_and c.from_residual.result c.from_residual.ensures.1 in
    rw (p.1, p.2) (c.in_err-bytes.ensures.only_memory (subst IsFitting (sym c.get.ensures.same) c.get.ensures.fits))
