use Rattle.scp_stand_node.specs.scp_turn.specs.Watch.{notes}
use Rattle.scp_live_process.proofs.Acted.{acted, refused_as}
use Rattle.scp_live_process.proofs.acting.act.Goals as goal

pub returns-in-Ok-clause-told : goal.returns-in-Ok-clause-told
returns-in-Ok-clause-told g c =
    acted (notes g.V.Watch.notes_before g.V.Watch.notes_after) c.args.watch.now c.act_with.new.watch c.args.live.now.node c.act_with.new.self.node _ c.in-Ok.ensures.told

pub returns-in-Err-clause-told : goal.returns-in-Err-clause-told
returns-in-Err-clause-told g c =
    refused_as (notes g.V.Watch.notes_before g.V.Watch.notes_after) c.in-Err.fault c.full_or_memory.result c.args.watch.now c.act_with.new.watch c.args.live.now.node c.act_with.new.self.node _ c.full_or_memory.ensures.full c.in-Err.ensures.told
