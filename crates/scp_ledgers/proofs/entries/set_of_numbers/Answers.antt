use Rattle.std.proofs.Common.{◌∙◌, List, map, ap, arith}
use Rattle.std.specs.BTreeSet.{keys}
use Rattle.std.proofs.lemmas.List.{take_all}
use Rattle.scp_shown.specs.Parts.{entry_of}
use Rattle.scp_shown.specs.declared.part.Part.{Part}
use Rattle.scp_ledgers.specs.Entries.{numbers_of}
use Rattle.scp_ledgers.proofs.Entering.{numbers_more}
use Rattle.scp_ledgers.proofs.entries.set_of_numbers.Goals as goal

pub loop-part-preserved : goal.loop-part-preserved
loop-part-preserved c = numbers_more c.args.parts.now c.loop-part.part-index c.part-item.result (keys c.loop-part.numbers) (keys c.insert.new.self) (omega arith) c.part-item.is c.loop-part.invariant c.in_ok-insert.ensures.keys

pub returns : goal.returns
returns c = c.loop-part.invariant ∙ ap (λ (l : List Part). numbers_of (map entry_of l)) (take_all c.loop-part.part-index c.args.parts.now (omega arith))
