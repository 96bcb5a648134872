use Rattle.std.proofs.Common.{◌≡◌, List, [], map, sym, subst, arith, rules}
use Rattle.std.proofs.lemmas.Grind.{common_steps}
use Rattle.scp_judged.specs.Contradicts.{ContradictAt}
use Rattle.scp_judged.proofs.Contradicting.{Place, RowsFound, said, rows_none, rows_more, rows_done, place_within}
use Rattle.scp_judged.proofs.contradicts.contradictions.Goals as goal

pub loop-at-init : goal.loop-at-init
loop-at-init c =
    let none : c.new-found.result.items ≡ [] = first_of (search rules, grind (arith, common_steps)) in
    subst (λ (l : List Place). RowsFound (ContradictAt (map said c.args.messages.now)) 0 l) (sym none) (rows_none (ContradictAt (map said c.args.messages.now)))

pub loop-at-preserved : goal.loop-at-preserved
loop-at-preserved c = rows_more (ContradictAt (map said c.args.messages.now)) c.loop-at.at c.loop-at.found.items c.add_earlier.new.found.items c.loop-at.invariant c.in_ok-add_earlier.ensures

pub returns-clause-exact : goal.returns-clause-exact
returns-clause-exact c =
    rows_done (ContradictAt (map said c.args.messages.now)) c.loop-at.at c.loop-at.found.items (λ i j p. (let lt = place_within c.args.messages.now i j p in omega (arith, lt))) c.loop-at.invariant
