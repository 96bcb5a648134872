use Rattle.std.proofs.Common.{[], ◌∷◌}
use Rattle.scp_core.specs.declared.event.Event.TheVariants.{PendTake, PendPut, SlotTake, SlotPut, ApplyTake}
use Rattle.scp_turn.specs.Watch.{notes}
use Rattle.scp_turn.proofs.Going.{acts_on}
use Rattle.scp_turn.proofs.turns.pass_on.Goals as goal

pub returns : goal.returns
returns g c = acts_on g.A.Driver.says (notes g.W.Watch.notes_before g.W.Watch.notes_after) c.args.number c.args.watch.now c.decide-has_decided.new.watch c.stage-has_applied.new.watch c.args.node.now c.decide-has_decided.new.node c.stage-has_applied.new.node (PendTake ∷ PendPut ∷ SlotTake ∷ SlotPut ∷ []) (ApplyTake ∷ []) c.decide-has_decided.result c.stage-has_applied.result c.either.result c.either.ensures c.decide-has_decided.ensures c.stage-has_applied.ensures
