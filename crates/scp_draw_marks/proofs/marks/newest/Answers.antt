use Rattle.std.proofs.Common.{sym, ◌∙◌, arith}
use Rattle.scp_draw_marks.proofs.Placing.{newest_here, newest_before}
use Rattle.scp_draw_marks.proofs.marks.newest.Goals as goal

pub returns-then-is_of : goal.returns-then-is_of
returns-then-is_of c = newest_here c.args.conn.now c.args.seq c.args.letters.now c.loop-left.left _ _ (omega arith) c.loop-left.invariant.within (sym c.is_of.ensures ∙ c.if-is_of.true) c.loop-left.invariant.newest

pub loop-left-preserved : goal.loop-left-preserved
loop-left-preserved c = record {
  within = omega (arith, c.loop-left.invariant.within);
  newest = newest_before c.args.conn.now c.args.seq c.args.letters.now c.loop-left.left _ _ (omega arith) c.loop-left.invariant.within (sym c.is_of.ensures ∙ c.if-is_of.false) c.loop-left.invariant.newest;
}
