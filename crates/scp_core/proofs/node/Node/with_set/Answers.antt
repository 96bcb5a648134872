use Rattle.std.proofs.Common.{◌∙◌, ap}
use Rattle.std.specs.Prelude.{Err}
use Rattle.std.proofs.lemmas.Result.{err_from_is_err_and}
use Rattle.scp_theorem.specs.scp_types.specs.declared.fault.Fault.{Fault}
use Rattle.scp_core.proofs.Starting.{not_bad}
use Rattle.scp_core.proofs.node.Node.with_set.Goals as goal

pub returns-in_err-decider-clause-not_bad : goal.returns-in_err-decider-clause-not_bad
returns-in_err-decider-clause-not_bad g c =
    let p = err_from_is_err_and c.from_residual-in_err-decider.result c.from_residual-in_err-decider.ensures.1 in
    not_bad c.in_err-decider.field-0.0 c.from_residual-in_err-decider.result (p.1 ∙ ap (λ (f : Fault). Err f) p.2) c.in_err-decider.ensures.faults
