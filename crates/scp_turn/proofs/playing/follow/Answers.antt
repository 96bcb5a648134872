use Rattle.scp_core.specs.scp_types.specs.declared.fault.Fault.TheVariants.{Failed}
use Rattle.scp_turn.specs.Watch.{notes}
use Rattle.scp_turn.proofs.Episodes.{rests_and_fails, rests_and_drains}
use Rattle.scp_turn.proofs.playing.follow.Goals as goal

pub returns-then-has_failed-clause-followed : goal.returns-then-has_failed-clause-followed
returns-then-has_failed-clause-followed g c =
    rests_and_fails g.A.Driver.says (notes g.W.Watch.notes_before g.W.Watch.notes_after) Failed c.rest-calm.result c.args.watch.now c.rest-calm.new.watch c.args.node.now c.rest-calm.new.node c.args.sent.now.items c.args.sent.now.items c.rest-calm.ensures

pub returns-clause-followed : goal.returns-clause-followed
returns-clause-followed g c =
    rests_and_drains g.A.Driver.says (notes g.W.Watch.notes_before g.W.Watch.notes_after) c.drain.result c.rest-calm.result c.args.watch.now c.rest-calm.new.watch c.drain.new.watch c.args.node.now c.rest-calm.new.node c.drain.new.node c.args.sent.now.items c.drain.new.sent.items
    c.rest-calm.ensures c.drain.ensures.drained
