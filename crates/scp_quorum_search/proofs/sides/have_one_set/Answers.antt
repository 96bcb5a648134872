use Rattle.std.proofs.Common.{◌≡◌, arith}
use Rattle.std.specs.List.{Any}
use Rattle.std.proofs.lemmas.Bool.{OnTrue_at}
use Rattle.scp_quorum_search.proofs.Rows.{one_more}
use Rattle.scp_quorum_search.proofs.Sets.{all_seen}
use Rattle.scp_quorum_search.proofs.sides.have_one_set.Goals as goal

pub loop-member-preserved : goal.loop-member-preserved
loop-member-preserved c =
    one_more (λ m. m.node ≡ c.args.a.now → Any (λ o. (o.node ≡ c.args.b.now) × (o.set ≡ m.set)) c.args.members.now) c.args.members.now c.loop-member.member-index c.member-item.result c.loop-member-test.true c.member-item.is c.loop-member.invariant
    (OnTrue_at c.if-not-has_one_set_with.false c.has_one_set_with.ensures)

pub returns : goal.returns
returns c = all_seen (λ m. m.node ≡ c.args.a.now → Any (λ o. (o.node ≡ c.args.b.now) × (o.set ≡ m.set)) c.args.members.now) c.args.members.now c.loop-member.member-index (omega arith) c.loop-member.invariant
