use Rattle.std.proofs.Common.{◌≡◌}
use Rattle.std.proofs.lemmas.Bool.{OnTrue_at}
use Rattle.scp_quorum_search.proofs.Rows.{any_here}
use Rattle.scp_quorum_search.proofs.sides.has_set.Goals as goal

pub returns-then-is_member_with : goal.returns-then-is_member_with
returns-then-is_member_with c =
    any_here (λ m. (m.node ≡ c.args.node.now) × (m.set ≡ c.args.set.now)) c.args.members.now c.loop-member.member-index c.member-item.result c.loop-member-test.true c.member-item.is (OnTrue_at c.if-is_member_with.true c.is_member_with.ensures)
