use Rattle.std.proofs.Common.{◌∙◌, List, map, ap, arith}
use Rattle.std.proofs.lemmas.List.{take_all}
use Rattle.scp_shown.specs.Parts.{entry_of}
use Rattle.scp_shown.specs.declared.part.Part.{Part}
use Rattle.scp_ledgers.specs.Entries.{of_ledger}
use Rattle.scp_ledgers.specs.inside.Grouped.{entries_at}
use Rattle.scp_ledgers.proofs.Entering.{grouped_more}
use Rattle.scp_ledgers.proofs.grouped.grouped.Goals as goal

pub loop-part-preserved : goal.loop-part-preserved
loop-part-preserved c = grouped_more c.args.parts.now c.loop-part.part-index c.part-item.result (entries_at c.sort_in.new.grouped) (entries_at c.loop-part.grouped) (omega arith) c.part-item.is c.in_ok-sort_in.ensures c.loop-part.invariant

pub returns : goal.returns
returns c = λ n. c.loop-part.invariant n ∙ ap (λ (l : List Part). of_ledger (map entry_of l) n) (take_all c.loop-part.part-index c.args.parts.now (omega arith))
