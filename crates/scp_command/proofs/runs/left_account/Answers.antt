use Rattle.std.proofs.Common.{◌≡◌, ◌∙◌, List, ap, map, subst, sym}
use Rattle.std.specs.Prelude.{All}
use Rattle.std.proofs.lemmas.Result.{err_from_is_err_and}
use Rattle.scp_notices.specs.scp_report.specs.declared.report.Report.{Report}
use Rattle.scp_notices.specs.scp_report.specs.Report.{ReportView, view_of}
use Rattle.scp_account.specs.Fits.{FitsNode}
use Rattle.scp_command.proofs.runs.left_account.Goals as goal

pub returns-in_err-text-clause-only_memory : goal.returns-in_err-text-clause-only_memory
returns-in_err-text-clause-only_memory c = λ fits.
    let seen = ap (λ (l : List Report). map view_of l) c.as_slice-2.ensures.value ∙ c.in_ok-reports.ensures in
    let p = err_from_is_err_and c.from_residual-in_err-text.result c.from_residual-in_err-text.ensures.1 in
    let fault = c.in_err-text.ensures.only_memory (subst (λ (l : List ReportView). All FitsNode l) (sym seen) fits) in
    rw (p.1, p.2) fault
