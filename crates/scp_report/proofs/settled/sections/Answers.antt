use Rattle.std.proofs.Common.{◌≡◌, ◌++◌, ◌∷◌, [], ◌+◌, take, sym, ap, ◌∙◌, arith}
use Rattle.std.proofs.lemmas.List.{take_more}
use Rattle.scp_core.specs.scp_theorem.specs.Fates.{conn_of}
use Rattle.scp_report.specs.Settled.{fate_line}
use Rattle.scp_report.specs.inside.Sections.{lines_at}
use Rattle.scp_report.proofs.Sections.{sections-more}
use Rattle.scp_report.proofs.settled.sections.Goals as goal

pub loop-fate-preserved : goal.loop-fate-preserved
loop-fate-preserved c =
    let journal = c.args.journal.now in
    let fate = c.fate-item.result in
    let i = c.loop-fate.fate-index in
    let next : take (i + 1) journal ≡ take i journal ++ fate ∷ [] = take_more journal i fate (omega arith) ∙ ap (λ x. take i journal ++ x ∷ []) (sym c.fate-item.is) in
    rw next (sections-more conn_of fate_line (λ q. []) (take i journal) fate (lines_at c.sort_in.new.sections) (lines_at c.loop-fate.sections) c.in_ok-sort_in.ensures c.loop-fate.invariant)
