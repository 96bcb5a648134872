use Rattle.std.proofs.Common.{[], ◌∷◌}
use Rattle.scp_core.specs.declared.event.Event.TheVariants.{PendTake, PendPut, SlotTake, SlotPut, ApplyTake}
use Rattle.scp_turn.specs.Turn.{reader_events}
use Rattle.scp_turn.specs.Watch.{notes}
use Rattle.scp_turn.proofs.Going.{acts_on}
use Rattle.scp_turn.proofs.turns.work.Goals as goal

pub returns : goal.returns
returns g c = acts_on g.A.Driver.says (notes g.W.Watch.notes_before g.W.Watch.notes_after) c.args.number c.args.watch.now c.read-has_read.new.watch c.pass_on-has_passed.new.watch c.args.node.now c.read-has_read.new.node c.pass_on-has_passed.new.node (reader_events c.args.links) (PendTake ∷ PendPut ∷ SlotTake ∷ SlotPut ∷ ApplyTake ∷ []) c.read-has_read.result c.pass_on-has_passed.result c.either.result c.either.ensures c.read-has_read.ensures c.pass_on-has_passed.ensures
