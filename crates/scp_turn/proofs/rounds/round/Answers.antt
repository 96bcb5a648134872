use Rattle.std.proofs.Common.{◌+◌, ℕ, length, refl, subst}
use Rattle.scp_turn.specs.Heard.{InOrder, Noted}
use Rattle.scp_turn.specs.Rounds.{IsTurn}
use Rattle.scp_turn.specs.inside.Carrying.{Acts}
use Rattle.scp_turn.proofs.Hearing.{acts_nothing, acts_next}
use Rattle.scp_turn.specs.Watch.{notes}
use Rattle.scp_turn.proofs.rounds.round.Goals as goal

pub loop-index-init : goal.loop-index-init
loop-index-init g c = acts_nothing (notes g.W.Watch.notes_before g.W.Watch.notes_after) c.args.watch.now c.args.nodes.now.items (InOrder (IsTurn c.args.driven.now (length c.args.nodes.now.items)) 0) (refl, refl)

pub loop-index-preserved : goal.loop-index-preserved
loop-index-preserved g c =
    let Note = notes g.W.Watch.notes_before g.W.Watch.notes_after in
    let old = c.args.nodes.now.items in
    let mid = c.loop-index.nodes.items in
    let new = c.turn-goes.new.nodes.items in
    let index = c.loop-index.index in
    let went : Acts (Noted Note c.loop-index.watch c.turn-goes.new.watch) mid new (IsTurn c.args.driven.now (length old) (index + 1)) c.turn-goes.result =
    subst (λ (j : ℕ). Acts (Noted Note c.loop-index.watch c.turn-goes.new.watch) mid new (IsTurn c.args.driven.now j (index + 1)) c.turn-goes.result) c.loop-index.invariant.count c.turn-goes.ensures in
    acts_next Note c.args.watch.now c.loop-index.watch c.turn-goes.new.watch old mid new (IsTurn c.args.driven.now (length old)) index c.loop-index.moved c.turn-goes.result c.either-moved.result c.either-moved.ensures c.loop-index.invariant went
