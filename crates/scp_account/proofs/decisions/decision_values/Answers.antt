use Rattle.std.proofs.Common.{subst, sym, arith}
use Rattle.std.proofs.lemmas.Result.{err_from_is_err_and}
use Rattle.scp_line.specs.scp_ledger.specs.declared.journal.Decision.{Decision}
use Rattle.scp_account.specs.Fits.{FitsOrigin}
use Rattle.scp_account.proofs.decisions.decision_values.Goals as goal

pub returns-in_err-decision_value-clause-only_memory : goal.returns-in_err-decision_value-clause-only_memory
returns-in_err-decision_value-clause-only_memory c = λ own all.
    let p = err_from_is_err_and c.from_residual.result c.from_residual.ensures.1 in
    let fits = subst (λ (d : Decision). FitsOrigin d.origin) (sym c.decision-item.is) (own c.loop-decision.decision-index c.decision-item.result (omega arith)) in
    let fault = c.in_err-decision_value.ensures.only_memory (subst (λ (d : Decision). FitsOrigin d.origin) (sym c.get.ensures.same) fits) (all c.get.result.now.slot.0) in
    rw (p.1, p.2) fault
