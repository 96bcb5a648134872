use Rattle.std.proofs.Common.{◌≡◌, ◌∙◌, ◌++◌, ℕ, List, map, ap}
use Rattle.scp_line.specs.scp_ledger.specs.declared.journal.Decision.{Decision}
use Rattle.scp_line.specs.scp_report.specs.Report.{ReportView, view_of}
use Rattle.scp_notices.specs.Disagreeing.{disagreements}
use Rattle.scp_notices.specs.Ignoring.{ignored}
use Rattle.scp_notices.specs.Lost.{losses_of, all_lost}
use Rattle.scp_notices.specs.inside.Seen.{applied_in, lost_in}
use Rattle.scp_notices.proofs.Parts.{maps, three_more}
use Rattle.scp_notices.proofs.nodes.add_nodes.Goals as goal

pub returns-clause-added : goal.returns-clause-added
returns-clause-added c =
    let cs = c.args.commands.now in
    let reports = c.args.reports.now in
    let old = c.args.out.now.items in
    let told = ignored c.args.told.now c.args.lines.now cs in
    let applied : map applied_in reports ≡ map (λ (r : ReportView). r.applied) (map view_of reports) = maps (λ (r : ReportView). r.applied) view_of reports in
    let lost : map lost_in reports ≡ map losses_of (map view_of reports) = maps losses_of view_of reports in
    three_more told (disagreements (map applied_in reports)) (all_lost cs (map lost_in reports)) old c.add_ignored.new.out.items c.add_disagreements.new.out.items c.add_lost.new.out.items
    c.in_ok-add_ignored.ensures c.in_ok-add_disagreements.ensures.added c.in_ok-add_lost.ensures
    ∙ ap (λ (l : List (List Decision)). old ++ (told ++ (disagreements l ++ all_lost cs (map lost_in reports)))) applied
    ∙ ap (λ (l : List (ℕ → ℕ)). old ++ (told ++ (disagreements (map (λ (r : ReportView). r.applied) (map view_of reports)) ++ all_lost cs l))) lost
