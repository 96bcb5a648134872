use Rattle.std.proofs.Common.{[], ◌∷◌}
use Rattle.scp_turn.specs.Watch.{notes}
use Rattle.scp_turn.proofs.Going.{acts_on}
use Rattle.scp_turn.proofs.turns.take_and_put.Goals as goal

pub returns : goal.returns
returns g c = acts_on g.A.Driver.says (notes g.W.Watch.notes_before g.W.Watch.notes_after) c.args.number c.args.watch.now c.stage-took.new.watch c.stage-put.new.watch c.args.node.now c.stage-took.new.node c.stage-put.new.node (c.args.take ∷ []) (c.args.put ∷ []) c.stage-took.result c.stage-put.result c.either.result c.either.ensures c.stage-took.ensures c.stage-put.ensures
