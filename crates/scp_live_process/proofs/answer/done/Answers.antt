use Rattle.scp_stand_node.specs.scp_turn.specs.Watch.{notes}
use Rattle.scp_live_process.specs.Answers.{IsDone}
use Rattle.scp_live_process.specs.Adding.{Adds}
use Rattle.scp_live_process.proofs.Going.{seen_nothing}
use Rattle.scp_live_process.proofs.Acts.{Told, asked_quietly, no_event, on_any, one_of_three}
use Rattle.scp_live_process.proofs.answer.done.Goals as goal

pub returns-in_default : goal.returns-in_default
returns-in_default g c = record {
  done = seen_nothing (notes g.V.Watch.notes_before g.V.Watch.notes_after) c.args.watch.now c.args.live.now.node (λ heard. Told c.reply.result heard (Adds (IsDone c.args.asked c.args.line.items) c.args.live.now heard c.args.live.now c.args.batch.now c.reply.new.self))
      (asked_quietly c.reply.result c.args.asked c.args.line.items c.args.live.now c.args.batch.now c.reply.new.self (no_event c.args.asked c.in_default.not-Event) c.reply.ensures.told c.reply.ensures.only);
  live = on_any c.reply.result c.requires.live;
  only = one_of_three c.reply.result c.reply.ensures.only;
}
