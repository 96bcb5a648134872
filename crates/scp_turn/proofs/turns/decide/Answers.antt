use Rattle.std.proofs.Common.{[], ◌∷◌}
use Rattle.scp_core.specs.declared.event.Event.TheVariants.{PendTake, PendPut, SlotTake, SlotPut}
use Rattle.scp_turn.specs.Watch.{notes}
use Rattle.scp_turn.proofs.Going.{acts_on}
use Rattle.scp_turn.proofs.turns.decide.Goals as goal

pub returns : goal.returns
returns g c = acts_on g.A.Driver.says (notes g.W.Watch.notes_before g.W.Watch.notes_after) c.args.number c.args.watch.now c.take_and_put-has_pended.new.watch c.take_and_put-has_decided.new.watch c.args.node.now c.take_and_put-has_pended.new.node c.take_and_put-has_decided.new.node (PendTake ∷ PendPut ∷ []) (SlotTake ∷ SlotPut ∷ []) c.take_and_put-has_pended.result c.take_and_put-has_decided.result c.either.result c.either.ensures c.take_and_put-has_pended.ensures c.take_and_put-has_decided.ensures
