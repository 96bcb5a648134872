use Rattle.std.proofs.Common.{arith}
use Rattle.scp_turn.specs.Watch.{notes}
use Rattle.scp_turn.proofs.Quiet.{none_yet, turn_more, comes_to_rest, goes_on}
use Rattle.scp_turn.proofs.resting.rest.Goals as goal

pub loop-init : goal.loop-init
loop-init g c = none_yet g.A.Driver.says (notes g.W.Watch.notes_before g.W.Watch.notes_after) c.args.watch.now c.args.node.now

pub loop-preserved : goal.loop-preserved
loop-preserved g c = turn_more g.A.Driver.says (notes g.W.Watch.notes_before g.W.Watch.notes_after) c.args.watch.now c.loop.watch c.turn_with.new.watch c.args.node.now c.loop.node c.turn_with.new.node c.loop.counter c.turn_with.result c.if-not-turn_with.false c.loop.invariant c.turn_with.ensures

pub returns-then-not-turn_with : goal.returns-then-not-turn_with
returns-then-not-turn_with g c = comes_to_rest g.A.Driver.says (notes g.W.Watch.notes_before g.W.Watch.notes_after) c.args.watch.now c.loop.watch c.turn_with.new.watch c.args.node.now c.loop.node c.turn_with.new.node c.loop.counter c.turn_with.result (omega arith) c.if-not-turn_with.true c.loop.invariant c.turn_with.ensures

pub returns : goal.returns
returns g c = goes_on g.A.Driver.says (notes g.W.Watch.notes_before g.W.Watch.notes_after) c.args.watch.now c.loop.watch c.args.node.now c.loop.node c.loop.counter (omega arith) c.loop.invariant
