use Rattle.std.proofs.Common.{◌≡◌, ◌+◌, ℕ, suc, [], ◌∷◌, sym, subst, arith}
use Rattle.scp_core.specs.declared.event.Event.TheVariants.{ReaderTake, ReaderPut}
use Rattle.scp_turn.specs.Turn.{reader_events}
use Rattle.scp_turn.specs.Watch.{notes}
use Rattle.scp_turn.specs.inside.Acting.{Acts}
use Rattle.scp_turn.proofs.Going.{acts_nothing, acts_on}
use Rattle.scp_turn.proofs.turns.read.Goals as goal

pub loop-link-init : goal.loop-link-init
loop-link-init g c = acts_nothing g.A.Driver.says (notes g.W.Watch.notes_before g.W.Watch.notes_after) c.args.number c.args.watch.now c.args.node.now

pub loop-link-preserved : goal.loop-link-preserved
loop-link-preserved g c =
    let Note = notes g.W.Watch.notes_before g.W.Watch.notes_after in
    let link = c.loop-link.link in
    let e : link + 1 ≡ suc link = omega arith in
    subst (λ (j : ℕ). Acts g.A.Driver.says Note c.args.number c.args.watch.now c.args.node.now (reader_events j) c.either-moved.result c.take_and_put-read.new.node c.take_and_put-read.new.watch) (sym e)
    (acts_on g.A.Driver.says Note c.args.number c.args.watch.now c.loop-link.watch c.take_and_put-read.new.watch c.args.node.now c.loop-link.node c.take_and_put-read.new.node (reader_events link) (ReaderTake link ∷ ReaderPut link ∷ []) c.loop-link.moved c.take_and_put-read.result c.either-moved.result c.either-moved.ensures c.loop-link.invariant c.take_and_put-read.ensures)
