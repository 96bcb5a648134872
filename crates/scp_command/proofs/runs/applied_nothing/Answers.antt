use Rattle.std.proofs.Common.{rules, tests, sym, ◌∙◌}
use Rattle.std.proofs.lemmas.Iterator.{YieldsList-from_slice}
use Rattle.std.proofs.lemmas.Iterator.Search.{all_from_yields_List}
use Rattle.std.proofs.lemmas.List.Folds.{list_all-map}
use Rattle.scp_notices.specs.scp_report.specs.declared.report.Report.{Report}
use Rattle.scp_notices.specs.scp_report.specs.Report.{view_of}
use Rattle.scp_command.specs.Answers.{applied_none}
use Rattle.scp_command.proofs.runs.applied_nothing.Goals as goal

pub returns : goal.returns
returns c =
    all_from_yields_List (λ (report : Report). applied_none (view_of report)) _ _ _ c.all.ensures.ran (YieldsList-from_slice c.args.reports.now cc) (λ x b q k. search (rules, tests))
    ∙ sym (list_all-map applied_none view_of c.args.reports.now)
