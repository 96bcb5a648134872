use Rattle.std.proofs.Common.{sym, ◌∙◌, arith}
use Rattle.scp_draw_marks.proofs.Placing.{put_here, put_behind, put_last}
use Rattle.scp_draw_marks.proofs.marks.put_pen.Goals as goal

pub returns-then-same_slot-clause-put : goal.returns-then-same_slot-clause-put
returns-then-same_slot-clause-put c =
    put_here c.args.pen c.index.result.now _ c.args.pens.now.items c.loop-index.pens.items c.loop-index.index _ (omega arith) c.index.ensures c.loop-index.invariant.same (sym c.same_slot.ensures ∙ c.if-same_slot.true) c.loop-index.invariant.put

pub loop-index-preserved : goal.loop-index-preserved
loop-index-preserved c = record {
  same = c.loop-index.invariant.same;
  put = put_behind c.args.pen c.index.result.now _ c.args.pens.now.items c.loop-index.pens.items c.loop-index.index _ (omega arith) c.index.ensures c.loop-index.invariant.same (sym c.same_slot.ensures ∙ c.if-same_slot.false) c.loop-index.invariant.put;
}

pub returns-clause-put : goal.returns-clause-put
returns-clause-put c = put_last c.args.pen c.args.pens.now.items c.loop-index.pens.items c.push.new.self.items c.loop-index.index _ (omega arith) c.loop-index.invariant.same c.in_ok-push.ensures.items c.loop-index.invariant.put
