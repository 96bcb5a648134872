use Rattle.std.proofs.Common.{◌≡◌, ◌∙◌, ◌++◌, ◌∷◌, [], sym, subst, ap, take, ℕ, ◌+◌, List, arith}
use Rattle.std.specs.Prelude.{if◌then◌else◌}
use Rattle.scp_script_short.specs.Scripts.{script_of}
use Rattle.std.proofs.lemmas.List.{take_more}
use Rattle.scp_script_short.proofs.Joined.{script_more, some_more}
use Rattle.scp_script_short.proofs.placed.joined.Goals as goal

pub loop-placed-preserved : goal.loop-placed-preserved
loop-placed-preserved c =
    let items = c.args.lines.now in
    let i = c.loop-placed.placed-index in
    let item = c.placed-item.result in
    let next : take (i + 1) items ≡ take i items ++ item ∷ [] = take_more items i item (omega arith) ∙ ap (λ x. take i items ++ x ∷ []) (sym c.placed-item.is) in
    let here = script_more (take i items) item c.loop-placed.first c.loop-placed.script.items c.loop-placed.invariant.0 c.loop-placed.invariant.1 in
    let P : List ℕ → Type 0 = λ o. c.loop-placed.script.items ++ (if c.loop-placed.first then o else 10 ∷ o) ≡ script_of (take i items ++ item ∷ []) in
    rw next (c.in_ok-add_line.ensures ∙ subst P (sym c.as_slice.ensures) here, some_more (take i items) item)
