use Rattle.std.proofs.Common.{◌∙◌, ◌++◌, List, map, ap, arith}
use Rattle.std.proofs.lemmas.List.{take_all}
use Rattle.scp_history.specs.scp_judged.specs.declared.messages.Message.{Message}
use Rattle.scp_shown.specs.Parts.{entry_of}
use Rattle.scp_shown.specs.declared.part.Part.{Part}
use Rattle.scp_shown.specs.Contradictions.{placed_from, placed_in, placed_of}
use Rattle.scp_shown.specs.inside.Placing.{placed}
use Rattle.scp_shown.proofs.Pairing.{mapped_taken}
use Rattle.scp_shown.proofs.contradictions.placed_in_parts.Goals as goal

pub loop-part-init : goal.loop-part-init
loop-part-init c = ap (map placed) c.new-all.ensures.items

pub loop-part-preserved : goal.loop-part-preserved
loop-part-preserved c =
    let old = map placed c.loop-part.all.items in
    let p = c.part-item.result in
    mapped_taken placed_in c.args.parts.now c.loop-part.part-index p old (map placed c.add_messages.new.all.items) (omega arith) c.part-item.is c.loop-part.invariant
    (c.in_ok-add_messages.ensures ∙ ap (λ (ms : List Message). old ++ placed_from p.file 1 ms) c.as_slice.ensures.value)

pub returns : goal.returns
returns c = c.loop-part.invariant ∙ ap (λ (l : List Part). placed_of (map entry_of l)) (take_all c.loop-part.part-index c.args.parts.now (omega arith))
