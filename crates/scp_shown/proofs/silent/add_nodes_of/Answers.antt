use Rattle.std.proofs.Common.{◌∙◌, List, fold, ap}
use Rattle.std.specs.BTreeSet.{keys, insert_key}
use Rattle.scp_history.specs.scp_types.specs.declared.names.NodeId.{NodeId}
use Rattle.scp_history.specs.scp_quorum.specs.NodeSet.{node_cmp}
use Rattle.scp_history.specs.scp_quorum.specs.QuorumTree.{QuorumTree}
use Rattle.scp_history.specs.scp_quorum.specs.Sane.{all_nodes}
use Rattle.scp_shown.proofs.silent.add_nodes_of.Goals as goal

pub returns-clause-added : goal.returns-clause-added
returns-clause-added c =
    c.in_ok-add_nodes.ensures
    ∙ ap (λ (l : List NodeId). fold (insert_key node_cmp) (keys c.args.named.now) l) (c.as_slice.ensures.value ∙ c.in_ok-nodes.ensures.all ∙ ap (λ (q : QuorumTree). all_nodes q) c.set.ensures.value)
