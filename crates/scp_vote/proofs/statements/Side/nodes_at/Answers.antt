use Rattle.std.proofs.Common.{◌≡◌, true, false, Some, sym, ap, ◌∙◌, subst}
use Rattle.std.specs.BTreeMap as node_map
use Rattle.std.specs.Map.Iter.{deref_pair}
use Rattle.std.proofs.lemmas.Map.Views.{All-turn}
use Rattle.scp_quorum.specs.NodeSet.{node_cmp, is_in}
use Rattle.scp_quorum.specs.Places.{marked}
use Rattle.scp_vote.specs.inside.Seats.{place_in}
use Rattle.scp_vote.proofs.Picking.{Entries, IsPicking, picking_by, picking_takes}
use Rattle.std.specs.Option.{option_map}
use Rattle.scp_quorum.specs.scp_types.specs.declared.names.NodeId.{NodeId}
use Rattle.scp_quorum.specs.Places.{is_marked_at}
use Rattle.scp_vote.specs.declared.statements.Entry.{Entry}
use Rattle.scp_vote.proofs.statements.Side.nodes_at.Goals as goal

pub loop-node-preserved-in_ok-insert : goal.loop-node-preserved-in_ok-insert
loop-node-preserved-in_ok-insert c =
    let es = c.args.self.now.table.now.entries in
    let item : node_map.get node_cmp es c.in-Some.node.now ≡ Some c.in-Some.entry.now =
    All-turn deref_pair (λ e. node_map.get node_cmp es e.0 ≡ Some e.1) _ _ _ _ _ _ _ c.into_iter-node-iterator.ensures.into_iter_gives.6 c.into_iter-node-iterator.ensures.into_iter_gives.0 c.loop-node.yielded_by c.in-Some.is c.next.ensures.steps
    in
    let H : NodeId → Type 0 = λ v. marked (place_in es) c.args.marks.now v ≡ true in
    let before : Entries → Type 0 = λ rest. IsPicking H (is_in c.loop-node.nodes) rest in
    picking_takes H (is_in c.loop-node.nodes) (c.in-Some.node.now, c.in-Some.entry.now) _ (is_in c.insert.new.self)
    (ap (λ o. is_marked_at c.args.marks.now (option_map (λ (e : Entry). e.place) o)) item ∙ sym c.is_marked.ensures ∙ c.if-is_marked.true)
    c.in_ok-insert.ensures.updates.0
    (subst before c.in-Some.ensures.steps c.loop-node.invariant)

pub loop-node-preserved : goal.loop-node-preserved
loop-node-preserved c =
    let es = c.args.self.now.table.now.entries in
    let item : node_map.get node_cmp es c.in-Some.node.now ≡ Some c.in-Some.entry.now =
    All-turn deref_pair (λ e. node_map.get node_cmp es e.0 ≡ Some e.1) _ _ _ _ _ _ _ c.into_iter-node-iterator.ensures.into_iter_gives.6 c.into_iter-node-iterator.ensures.into_iter_gives.0 c.loop-node.yielded_by c.in-Some.is c.next.ensures.steps
    in
    let H : NodeId → Type 0 = λ v. marked (place_in es) c.args.marks.now v ≡ true in
    let before : Entries → Type 0 = λ rest. IsPicking H (is_in c.loop-node.nodes) rest in
    picking_by H (is_in c.loop-node.nodes) (c.in-Some.node.now, c.in-Some.entry.now) _
    (λ h. let f : true ≡ false = sym h ∙ ap (λ o. is_marked_at c.args.marks.now (option_map (λ (e : Entry). e.place) o)) item ∙ sym c.is_marked.ensures ∙ c.if-is_marked.false in cc)
    (subst before c.in-Some.ensures.steps c.loop-node.invariant)
