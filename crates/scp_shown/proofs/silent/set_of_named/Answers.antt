use Rattle.std.proofs.Common.{◌∙◌, ◌<◌, List, length, map, ap, arith}
use Rattle.std.specs.BTreeSet.{keys}
use Rattle.std.proofs.lemmas.List.{get_or_default, take_all}
use Rattle.scp_history.specs.scp_types.specs.declared.names.NodeId.{NodeId}
use Rattle.scp_history.specs.scp_judged.specs.Verdicts.{heard_of}
use Rattle.scp_shown.specs.Silent.{nodes_named}
use Rattle.scp_shown.proofs.Saying.{named_more}
use Rattle.scp_shown.proofs.silent.set_of_named.Goals as goal

pub loop-node-preserved : goal.loop-node-preserved
loop-node-preserved c =
    let xs = c.args.nodes.now in
    let i = c.loop-node.node-index in
    let lt : i < length xs = omega arith in
    named_more (map heard_of c.args.joined.now) xs i _ (keys c.loop-node.named) (keys c.add_named_by.new.named) lt (get_or_default xs i _ _ lt) c.loop-node.invariant c.in_ok-add_named_by.ensures.added

pub returns-clause-named : goal.returns-clause-named
returns-clause-named c = c.loop-node.invariant ∙ ap (λ (l : List NodeId). nodes_named (map heard_of c.args.joined.now) l) (take_all c.loop-node.node-index c.args.nodes.now (omega arith))
