use Rattle.std.proofs.Common.{◌≡◌, ◌∙◌, ◌++◌, ◌∷◌, [], Bool, cond, List, ap}
use Rattle.scp_shown.specs.scp_history.specs.declared.line.Line.{Line}
use Rattle.scp_ledgers.specs.Report.{is_for_all}
use Rattle.scp_ledgers.proofs.report.add_ledger.Goals as goal

pub returns-clause-added : goal.returns-clause-added
returns-clause-added c =
    let here = c.in_ok-here.here.items in
    let is : c.are_for_all-is_certified.result ≡ is_for_all here = c.are_for_all-is_certified.ensures ∙ ap (λ (l : List Line). is_for_all l) c.as_slice.ensures.value in (
      here,
      c.in_ok-here.ensures.lines,
      c.in_ok-append.ensures.items,
      c.in_ok-add_number.ensures ∙ ap (λ (b : Bool). c.args.certified.now.items ++ cond b (c.args.number ∷ []) []) is,
    )
