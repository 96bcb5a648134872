use Rattle.std.proofs.Common.{◌≡◌, [], arith}
use Rattle.std.proofs.lemmas.Grind.{common_steps}
use Rattle.scp_quorum_search.proofs.Sets.{empty_has_none}
use Rattle.scp_quorum_search.proofs.search.has_none.Goals as goal

pub returns-in-None-clause-none : goal.returns-in-None-clause-none
returns-in-None-clause-none c =
    let none : c.args.nodes.now.keys ≡ [] = grind (arith, common_steps, c.in-None.ensures.variant) in
    empty_has_none c.args.nodes.now none

pub returns-in-Some-clause-some : goal.returns-in-Some-clause-some
returns-in-Some-clause-some c = (c.in-Some.field-0.now, c.in-Some.ensures.member)
