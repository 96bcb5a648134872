use Rattle.std.proofs.Common.{rules, ◌≡◌}
use Rattle.scp_quorum.proofs.Marking.{verdicts_push}
use Rattle.scp_quorum.proofs.quorum.places.judge.Goals as goal

pub loop-set-preserved : goal.loop-set-preserved
loop-set-preserved g c =
    let q : c.set.result.now ≡ c.set-item.result.value = search rules in
    verdicts_push (g.N.Nodes.members c.args.nodes.now) c.args.sets.now c.loop-set.set-index c.set-item.result c.loop-set.verdicts.items c.push.new.self.items c.is_satisfied_by.result c.set.result.now
    c.loop-set-test.true c.set-item.is c.is_satisfied_by.ensures q c.in_ok-push.ensures.items c.loop-set.invariant
