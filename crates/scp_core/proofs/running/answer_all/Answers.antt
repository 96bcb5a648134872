use Rattle.std.proofs.Common.{arith, length, length-append, ap, ◌∷◌, [], ◌∙◌}
use Rattle.scp_core.proofs.Zipped.{zip-more}
use Rattle.scp_core.proofs.running.answer_all.Goals as goal

pub loop-event-preserved : goal.loop-event-preserved
loop-event-preserved g c =
    let a = c.in_ok-answer.ensures.theorem in
    record {
      theorem = rw (a.added, zip-more c.args.events.now c.loop-event.replies.items c.loop-event.event-index c.event-item.result a.reply c.loop-event-test.true c.event-item.is c.loop-event.invariant.count) (a.theorem _ c.loop-event.invariant.theorem);
      count = omega (arith, c.loop-event.invariant.count, ap length a.added, length-append c.loop-event.replies.items (a.reply ∷ []));
      config = c.answer.ensures.config ∙ c.loop-event.invariant.config;
    }
