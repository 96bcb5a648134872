use Rattle.std.proofs.Common.{◌∙◌, ◌<◌, List, fold, length, ap, refl, arith}
use Rattle.std.specs.BTreeSet.{keys, insert_key}
use Rattle.std.proofs.lemmas.List.{get_or_default, take_all}
use Rattle.scp_history.specs.scp_types.specs.declared.names.NodeId.{NodeId}
use Rattle.scp_history.specs.scp_quorum.specs.NodeSet.{node_cmp}
use Rattle.scp_shown.proofs.Listing.{fold_taken}
use Rattle.scp_shown.proofs.silent.add_nodes.Goals as goal

pub loop-node-init : goal.loop-node-init
loop-node-init c = refl

pub loop-node-preserved : goal.loop-node-preserved
loop-node-preserved c =
    let xs = c.args.nodes.now in
    let i = c.loop-node.node-index in
    let lt : i < length xs = omega arith in
    fold_taken (insert_key node_cmp) (keys c.args.named.now) xs i _ (keys c.loop-node.named) (keys c.insert.new.self) lt (get_or_default xs i _ _ lt) c.loop-node.invariant c.in_ok-insert.ensures.keys

pub returns : goal.returns
returns c = c.loop-node.invariant ∙ ap (λ (l : List NodeId). fold (insert_key node_cmp) (keys c.args.named.now) l) (take_all c.loop-node.node-index c.args.nodes.now (omega arith))
