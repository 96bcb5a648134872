use Rattle.std.proofs.Common.{◌+◌, refl}
use Rattle.scp_turn.specs.Heard.{InOrder}
use Rattle.scp_turn.specs.Rounds.{Carries}
use Rattle.scp_turn.proofs.Hearing.{acts_nothing, acts_next}
use Rattle.scp_turn.specs.Watch.{notes}
use Rattle.scp_turn.proofs.rounds.carry_all.Goals as goal

pub loop-to-init : goal.loop-to-init
loop-to-init g c = acts_nothing (notes g.W.Watch.notes_before g.W.Watch.notes_after) c.args.watch.now c.args.nodes.now.items (InOrder (Carries c.args.driven.now (c.args.from + 1)) 0) (refl, refl)

pub loop-to-preserved : goal.loop-to-preserved
loop-to-preserved g c = acts_next (notes g.W.Watch.notes_before g.W.Watch.notes_after) c.args.watch.now c.loop-to.watch c.carry-carried.new.watch c.args.nodes.now.items c.loop-to.nodes.items c.carry-carried.new.nodes.items (Carries c.args.driven.now (c.args.from + 1)) c.loop-to.to c.loop-to.sent c.carry-carried.result c.either-sent.result c.either-sent.ensures c.loop-to.invariant c.carry-carried.ensures
