use Rattle.std.proofs.Common.{◌∙◌, ◌++◌, List, flat_map, map, ap, sym, append-nil, arith}
use Rattle.std.proofs.lemmas.List.{take_all}
use Rattle.scp_shown.specs.Parts.{entry_of}
use Rattle.scp_shown.specs.declared.part.Part.{Part}
use Rattle.scp_shown.specs.LedgerLines.{entry_lines}
use Rattle.scp_shown.proofs.Gathering.{lines_taken}
use Rattle.scp_shown.proofs.lines.add_entry_lines.Goals as goal

pub loop-part-init : goal.loop-part-init
loop-part-init c = sym (append-nil c.args.lines.now.items)

pub loop-part-preserved : goal.loop-part-preserved
loop-part-preserved c =
    lines_taken entry_lines c.args.parts.now c.loop-part.part-index c.part-item.result c.args.lines.now.items c.loop-part.lines.items c.add_message_lines.new.lines.items (omega arith) c.part-item.is c.loop-part.invariant c.in_ok-add_message_lines.ensures

pub returns : goal.returns
returns c = c.loop-part.invariant ∙ ap (λ (l : List Part). c.args.lines.now.items ++ flat_map entry_lines (map entry_of l)) (take_all c.loop-part.part-index c.args.parts.now (omega arith))
