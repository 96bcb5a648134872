use Rattle.std.proofs.Common.{arith}
use Rattle.std.proofs.lemmas.Bool.{OnTrue_at}
use Rattle.scp_quorum_search.specs.inside.Sides.{StandTogether}
use Rattle.scp_quorum_search.proofs.Rows.{one_more}
use Rattle.scp_quorum_search.proofs.Sets.{all_seen}
use Rattle.scp_quorum_search.proofs.sides.stand_together_in_all.Goals as goal

pub loop-member-preserved : goal.loop-member-preserved
loop-member-preserved c =
    one_more (λ m. StandTogether c.args.a.now c.args.b.now m.set) c.args.members.now c.loop-member.member-index c.member-item.result c.loop-member-test.true c.member-item.is c.loop-member.invariant (OnTrue_at c.if-not-stand_together.false c.stand_together.ensures)

pub returns : goal.returns
returns c = all_seen (λ m. StandTogether c.args.a.now c.args.b.now m.set) c.args.members.now c.loop-member.member-index (omega arith) c.loop-member.invariant
