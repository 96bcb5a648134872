use Rattle.std.proofs.Common.{List, set, ap, ◌∙◌}
use Rattle.std.proofs.lemmas.List.{set-get_or}
use Rattle.scp_threaded_node.specs.declared.node.Running.{Running}
use Rattle.scp_threaded_node.proofs.acting.flush_all.Goals as goal

pub loop-lane-preserved : goal.loop-lane-preserved
loop-lane-preserved g c =
    let xs : List Running = c.loop-lane.lane-items in
    ap (λ (x : Running). set xs c.loop-lane.lane-index x) c.flush_lane.ensures ∙ set-get_or xs c.loop-lane.lane-index c.lane-item.result ∙ c.loop-lane.invariant
