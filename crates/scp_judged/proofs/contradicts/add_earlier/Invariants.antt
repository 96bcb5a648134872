use Rattle.std.proofs.Common.{map}
use Rattle.scp_judged.specs.Contradicts.{ContradictAt}
use Rattle.scp_judged.proofs.Contradicting.{RowFound, said}
use Rattle.scp_judged.proofs.contradicts.add_earlier.Given as goal

abbrev pub invariant-loop-i : goal.invariant-loop-i
invariant-loop-i l = RowFound l.initial.found.items (ContradictAt (map said l.messages)) l.at l.i l.found.items
