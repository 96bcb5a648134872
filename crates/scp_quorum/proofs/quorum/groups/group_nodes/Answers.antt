use Rattle.std.proofs.Common.{◌≡◌, List, [], Some, sym, ◌∙◌, ap, subst}
use Rattle.std.specs.BTreeMap as node_map
use Rattle.std.specs.Map.Iter.{deref_pair}
use Rattle.std.proofs.lemmas.Map.Views.{All-turn}
use Rattle.scp_quorum.specs.declared.quorum.groups.Group.{Group}
use Rattle.scp_quorum.specs.NodeSet.{node_cmp}
use Rattle.scp_quorum.specs.QuorumTree.{QuorumTree}
use Rattle.scp_quorum.specs.Quorum.{set_of}
use Rattle.scp_quorum.proofs.Pass.{Entries, set_of-entry}
use Rattle.scp_quorum.proofs.Groups.{IsGrouping, grouping_none, grouping_more}
use Rattle.scp_quorum.proofs.quorum.groups.group_nodes.Goals as goal

pub loop-node-init : goal.loop-node-init
loop-node-init c =
    let m = c.args.sets.now in
    let entries : Entries = c.into_iter-node-iterator.result in
    let P : List Group → Type 0 = λ gs. IsGrouping m gs entries in
    let Q : Entries → Type 0 = λ es. IsGrouping m [] es in
    let whole : entries ≡ m.entries = c.into_iter-node-iterator.ensures.into_iter_gives.0 in
    subst P (sym c.new-groups.ensures.items) (subst Q (sym whole) (grouping_none m))

pub loop-node-preserved : goal.loop-node-preserved
loop-node-preserved c =
    let m = c.args.sets.now in
    let item : node_map.get node_cmp m c.in-Some.node.now ≡ Some c.in-Some.set.now =
    All-turn deref_pair (λ e. node_map.get node_cmp m e.0 ≡ Some e.1) _ _ _ _ _ _ _ c.into_iter-node-iterator.ensures.into_iter_gives.6 c.into_iter-node-iterator.ensures.into_iter_gives.0 c.loop-node.yielded_by c.in-Some.is c.next.ensures.steps
    in
    let its : set_of m c.in-Some.node.now ≡ Some c.deref.result.now = set_of-entry m (c.in-Some.node.now, c.in-Some.set.now) item ∙ ap (λ (q : QuorumTree). Some q) (sym c.deref.ensures) in
    let before : Entries → Type 0 = λ rest. IsGrouping m c.loop-node.groups.items rest in
    grouping_more m c.loop-node.groups.items c.join_group.new.groups.items (c.in-Some.node.now, c.in-Some.set.now) c.next.new.self
    (c.in_ok-join_group.ensures.one_set (set_of m) its c.loop-node.invariant.one_set)
    c.in_ok-join_group.ensures.joined
    c.in_ok-join_group.ensures.others
    (subst before c.in-Some.ensures.steps c.loop-node.invariant)
