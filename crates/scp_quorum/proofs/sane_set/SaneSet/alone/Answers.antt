use Rattle.std.proofs.Common.{◌≡◌, length, arith}
use Rattle.std.proofs.lemmas.Grind.{common_steps}
use Rattle.scp_quorum.proofs.Alone.{one, alone_is_sane}
use Rattle.scp_quorum.proofs.sane_set.SaneSet.alone.Goals as goal

pub invariant_of-result : goal.invariant_of-result
invariant_of-result c =
    let full : length c.args.node.0 ≡ 32 = search (c.well_formed) in
    let is : c.of_nodes-set.result ≡ one c.args.node = grind (arith, common_steps) in
    (alone_is_sane c.of_nodes-set.result c.args.node full is, c.in-Ok.ensures.digest)
