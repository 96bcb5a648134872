use Rattle.std.proofs.Common.{◌∙◌, ◌<◌, List, length, map, ap, arith}
use Rattle.std.specs.BTreeSet.{keys}
use Rattle.std.proofs.lemmas.List.{get_or_default, take_all}
use Rattle.scp_history.specs.scp_types.specs.declared.names.NodeId.{NodeId}
use Rattle.scp_history.specs.scp_judged.specs.Verdicts.{heard_of}
use Rattle.scp_shown.specs.Spoken.{value_last, values_heard}
use Rattle.scp_shown.proofs.Saying.{values_more}
use Rattle.scp_shown.proofs.values.values_of.Goals as goal

pub loop-node-preserved : goal.loop-node-preserved
loop-node-preserved c =
    let xs = c.args.nodes.now in
    let i = c.loop-node.node-index in
    let lt : i < length xs = omega arith in
    values_more (value_last (map heard_of c.args.joined.now)) xs i _ (keys c.loop-node.values) (keys c.add_last.new.values) lt (get_or_default xs i _ _ lt) c.loop-node.invariant c.in_ok-add_last.ensures.added

pub returns-clause-values : goal.returns-clause-values
returns-clause-values c = c.loop-node.invariant ∙ ap (λ (l : List NodeId). values_heard (map heard_of c.args.joined.now) l) (take_all c.loop-node.node-index c.args.nodes.now (omega arith))
