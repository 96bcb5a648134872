use Rattle.std.proofs.Common.{ap, sym, refl}
use Rattle.scp_stand_node.specs.scp_turn.specs.Watch.{notes}
use Rattle.scp_live_process.specs.Adding.{BatchView}
use Rattle.scp_live_process.proofs.Going.{seen_as}
use Rattle.scp_live_process.proofs.Acts.{plays, lives, full_as}
use Rattle.scp_live_process.proofs.batch.Batch.play.Goals as goal

pub returns-in-Ok-clause-played : goal.returns-in-Ok-clause-played
returns-in-Ok-clause-played g c =
    plays (notes g.V.Watch.notes_before g.V.Watch.notes_after) c.args.watch.now c.act.new.watch c.keep.result c.args.event c.args.line.items c.args.live.now c.act.new.live c.args.self.now _ c.keep.new.self c.entry_of.result _ _ c.in-Ok.sent.0 c.in-Ok.sent
    c.keep.ensures.only_memory c.keep.ensures.kept (ap (λ (b : BatchView). b.entries) c.self.view_is) (sym (ap (λ (b : BatchView). b.text) c.self.view_is)) refl c.entry_of.ensures.is c.in-Ok.ensures.names c.in-Ok.ensures.nodes c.in-Ok.ensures.told

pub returns-in-Ok-clause-live : goal.returns-in-Ok-clause-live
returns-in-Ok-clause-live g c = lives c.keep.result c.args.live.now.node c.act.new.live.node _ c.requires.live c.act.ensures.told c.in-Ok.ensures.runs

pub returns-in-Err-clause-played : goal.returns-in-Err-clause-played
returns-in-Err-clause-played g c =
    seen_as (notes g.V.Watch.notes_before g.V.Watch.notes_after) c.args.watch.now c.act.new.watch c.args.live.now.node c.act.new.live.node _ _ (λ heard p. (tt, full_as c.in-Err.fault heard p.1)) c.in-Err.ensures.told
