use Rattle.std.proofs.Common.{arith, ◌∙◌, ◌≡◌, ◌<◌, ◌≤◌, length, nat_eq, [], ◌∷◌, ◌++◌}
use Rattle.std.specs.Cmp.Lexicographic.{pointwise}
use Rattle.indexmap.proofs.CallerLemmas.{insert_entry-new}
use Rattle.scp_fetch.proofs.Ring.{placed_last, placed_in}
use Rattle.scp_fetch.proofs.store.place.Goals as goal

pub returns-then-len-le-OTHER_SETS_LIMIT-clause-placed : goal.returns-then-len-le-OTHER_SETS_LIMIT-clause-placed
returns-then-len-le-OTHER_SETS_LIMIT-clause-placed c =
    let few : length c.insert.new.self.entries ≤ 256 = omega (arith, c.len.ensures.len, c.if-len-le-OTHER_SETS_LIMIT.true) in
    placed_last c.args.first (c.args.key, c.args.set) _ _ (c.in_ok-insert.ensures.entries ∙ insert_entry-new (pointwise nat_eq) c.args.others.now c.args.key c.args.set c.requires.new) few

pub returns-then-first-eq-OTHER_SETS_LIMIT-clause-placed : goal.returns-then-first-eq-OTHER_SETS_LIMIT-clause-placed
returns-then-first-eq-OTHER_SETS_LIMIT-clause-placed c =
    let many : 256 < length c.insert.new.self.entries = omega (arith, c.len.ensures.len, c.if-len-le-OTHER_SETS_LIMIT.false) in
    placed_in c.args.first (c.args.key, c.args.set) _ _ _ _ (c.in_ok-insert.ensures.entries ∙ insert_entry-new (pointwise nat_eq) c.args.others.now c.args.key c.args.set c.requires.new) many c.requires.ring c.swap_remove_index.ensures.entry c.swap_remove_index.ensures.entries

pub returns-else-first-eq-OTHER_SETS_LIMIT-clause-placed : goal.returns-else-first-eq-OTHER_SETS_LIMIT-clause-placed
returns-else-first-eq-OTHER_SETS_LIMIT-clause-placed c =
    let many : 256 < length c.insert.new.self.entries = omega (arith, c.len.ensures.len, c.if-len-le-OTHER_SETS_LIMIT.false) in
    placed_in c.args.first (c.args.key, c.args.set) _ _ _ _ (c.in_ok-insert.ensures.entries ∙ insert_entry-new (pointwise nat_eq) c.args.others.now c.args.key c.args.set c.requires.new) many c.requires.ring c.swap_remove_index.ensures.entry c.swap_remove_index.ensures.entries
