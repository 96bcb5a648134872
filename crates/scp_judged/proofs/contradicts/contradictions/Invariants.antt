use Rattle.std.proofs.Common.{map}
use Rattle.scp_judged.specs.Contradicts.{ContradictAt}
use Rattle.scp_judged.proofs.Contradicting.{RowsFound, said}
use Rattle.scp_judged.proofs.contradicts.contradictions.Given as goal

abbrev pub invariant-loop-at : goal.invariant-loop-at
invariant-loop-at l = RowsFound (ContradictAt (map said l.messages)) l.at l.found.items
