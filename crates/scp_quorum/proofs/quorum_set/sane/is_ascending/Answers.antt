use Rattle.std.proofs.Common.{sym, ◌∙◌}
use Rattle.scp_xdr.proofs.Answered.{refuted, shown}
use Rattle.scp_quorum.proofs.Ascending.{all_ascend, one_more, not_ascending}
use Rattle.scp_quorum.proofs.quorum_set.sane.is_ascending.Goals as goal

pub returns-then-is_ge : goal.returns-then-is_ge
returns-then-is_ge c = refuted (not_ascending c.args.nodes.now c.loop-i.i _ c.cmp.result c.loop-i.auto.i c.loop-i-test.true c.cmp.ensures (sym c.is_ge.ensures ∙ c.if-is_ge.true))

pub loop-i-preserved : goal.loop-i-preserved
loop-i-preserved c = one_more c.args.nodes.now c.loop-i.i _ c.cmp.result c.loop-i.auto.i c.loop-i-test.true c.loop-i.invariant c.cmp.ensures (sym c.is_ge.ensures ∙ c.if-is_ge.false)

pub returns : goal.returns
returns c = shown (all_ascend c.args.nodes.now c.loop-i.i c.loop-i-test.false c.loop-i.invariant)
