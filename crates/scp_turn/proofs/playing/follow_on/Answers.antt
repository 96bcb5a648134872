use Rattle.scp_turn.specs.Watch.{notes}
use Rattle.scp_turn.proofs.Episodes.{none_follows}
use Rattle.scp_turn.proofs.playing.follow_on.Goals as goal

pub returns-in_default : goal.returns-in_default
returns-in_default g c = record {
  followed = none_follows g.A.Driver.says (notes g.W.Watch.notes_before g.W.Watch.notes_after) c.args.reply.now c.args.watch.now c.args.node.now c.args.sent.now.items c.in_default.not-Accepted;
  runs = c.requires.runs;
  only = tt;
}
