use Rattle.std.proofs.Common.{◌≡◌, ◌∙◌, ◌++◌, ◌∷◌, [], sym, subst, ap, take, ◌+◌, List, arith}
use Rattle.std.proofs.lemmas.List.{take_more}
use Rattle.scp_script_short.specs.declared.placed.PlacedLine.{PlacedLine}
use Rattle.scp_script_short.specs.Hexing.{AreDigits}
use Rattle.scp_script_short.proofs.Hexed.{digits_more, refused_there}
use Rattle.scp_script_short.proofs.hexing.hex_lines.Goals as goal

pub returns-in-Err-clause-refused : goal.returns-in-Err-clause-refused
returns-in-Err-clause-refused c =
    refused_there c.args.lines.now c.loop-placed.written.items c.loop-placed.placed-index c.placed-item.result c.in-Err.error (omega arith) c.placed-item.is c.loop-placed.invariant c.in-Err.ensures.refused

pub loop-placed-preserved : goal.loop-placed-preserved
loop-placed-preserved c =
    let items = c.args.lines.now in
    let i = c.loop-placed.placed-index in
    let item = c.placed-item.result in
    let next : take (i + 1) items ≡ take i items ++ item ∷ [] = take_more items i item (omega arith) ∙ ap (λ x. take i items ++ x ∷ []) (sym c.placed-item.is) in
    let more = digits_more (take i items) c.loop-placed.written.items item c.in-Ok.line c.loop-placed.invariant c.in-Ok.ensures.written in
    rw next (subst (λ (o : List PlacedLine). AreDigits (take i items ++ item ∷ []) o) (sym c.in_ok-push.ensures.items) more)
