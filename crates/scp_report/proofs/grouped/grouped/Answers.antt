use Rattle.std.proofs.Common.{◌≡◌, ◌++◌, ◌∷◌, [], ◌+◌, take, sym, ap, ◌∙◌, arith}
use Rattle.std.proofs.lemmas.List.{take_more}
use Rattle.scp_report.specs.inside.Grouped.{fates_at}
use Rattle.scp_report.proofs.Sorting.{grouped_more}
use Rattle.scp_report.proofs.grouped.grouped.Goals as goal

pub loop-fate-preserved : goal.loop-fate-preserved
loop-fate-preserved c =
    let journal = c.args.journal.now in
    let fate = c.fate-item.result in
    let i = c.loop-fate.fate-index in
    let next : take (i + 1) journal ≡ take i journal ++ fate ∷ [] = take_more journal i fate (omega arith) ∙ ap (λ x. take i journal ++ x ∷ []) (sym c.fate-item.is) in
    rw next (grouped_more (take i journal) fate (fates_at c.sort_in.new.grouped) (fates_at c.loop-fate.grouped) c.in_ok-sort_in.ensures c.loop-fate.invariant)
