use Rattle.std.proofs.Common.{◌≡◌, ◌≤◌, false, count_by, Some, arith, ◌∙◌, subst}
use Rattle.std.specs.BTreeMap as node_map
use Rattle.std.specs.Map.Iter.{deref_pair}
use Rattle.std.proofs.lemmas.Bool.{OnTrue_at}
use Rattle.std.proofs.lemmas.Map.Views.{All-turn}
use Rattle.scp_quorum.specs.NodeSet.{is_in, node_cmp}
use Rattle.scp_quorum.specs.QuorumTree.{QuorumTree}
use Rattle.scp_quorum.specs.Satisfies.{Satisfies}
use Rattle.scp_quorum.specs.Quorum.{set_of}
use Rattle.scp_quorum.proofs.Alike.{satisfied_by_head}
use Rattle.scp_quorum.proofs.Pass.{Entries, IsPass, pass_satisfied, pass_end}
use Rattle.scp_quorum.proofs.quorum.are_all_satisfied.Goals as goal

pub loop-set-preserved-then-begins_with : goal.loop-set-preserved-then-begins_with
loop-set-preserved-then-begins_with c =
    let m = c.args.sets.now in
    let nodes = is_in c.args.nodes.now in
    let item : node_map.get node_cmp m c.in-Some.field-0-0.now ≡ Some c.in-Some.set.now =
    All-turn deref_pair (λ e. node_map.get node_cmp m e.0 ≡ Some e.1) _ _ _ _ _ _ _ c.into_iter-set-iterator.ensures.into_iter_gives.6 c.into_iter-set-iterator.ensures.into_iter_gives.0 c.loop-set.yielded_by c.in-Some.is c.next.ensures.steps
    in
    let before : Entries → Type 0 = λ rest. IsPass (set_of m) nodes nodes false rest in
    let P : QuorumTree → Type 0 = λ q. Satisfies nodes q in
    let head = c.loop-set.head.now in
    let less : c.set-set.result.now.head.threshold ≤ c.loop-set.threshold = omega (arith, c.threshold.ensures, c.if-threshold.true) in
    let here : Satisfies nodes c.set-set.result.now = satisfied_by_head nodes c.set-set.result.now head c.loop-set.threshold c.loop-set.invariant.enough less (OnTrue_at c.if-begins_with.true c.begins_with.ensures) in
    record {
      enough = c.loop-set.invariant.enough;
      pass = pass_satisfied m nodes (c.in-Some.field-0-0.now, c.in-Some.set.now) _ item (subst P (c.set-set.ensures.value ∙ c.deref.ensures) here) (subst before c.in-Some.ensures.steps c.loop-set.invariant.pass);
    }

pub loop-set-preserved-in-Some-enough_of : goal.loop-set-preserved-in-Some-enough_of
loop-set-preserved-in-Some-enough_of c =
    let m = c.args.sets.now in
    let nodes = is_in c.args.nodes.now in
    let item : node_map.get node_cmp m c.in-Some.field-0-0.now ≡ Some c.in-Some.set.now =
    All-turn deref_pair (λ e. node_map.get node_cmp m e.0 ≡ Some e.1) _ _ _ _ _ _ _ c.into_iter-set-iterator.ensures.into_iter_gives.6 c.into_iter-set-iterator.ensures.into_iter_gives.0 c.loop-set.yielded_by c.in-Some.is c.next.ensures.steps
    in
    let before : Entries → Type 0 = λ rest. IsPass (set_of m) nodes nodes false rest in
    let P : QuorumTree → Type 0 = λ q. Satisfies nodes q in
    let head = c.in-Some-enough_of.found.now in
    let threshold = c.threshold-threshold.result in
    let enough : threshold ≤ count_by nodes head = omega (arith, c.threshold-threshold.ensures, c.in-Some-enough_of.ensures.enough) in
    let less : c.set-set.result.now.head.threshold ≤ threshold = omega (arith, c.threshold-threshold.ensures) in
    let here : Satisfies nodes c.set-set.result.now = satisfied_by_head nodes c.set-set.result.now head threshold enough less c.in-Some-enough_of.ensures.front in
    record {
      enough = enough;
      pass = pass_satisfied m nodes (c.in-Some.field-0-0.now, c.in-Some.set.now) _ item (subst P (c.set-set.ensures.value ∙ c.deref.ensures) here) (subst before c.in-Some.ensures.steps c.loop-set.invariant.pass);
    }

pub loop-set-preserved : goal.loop-set-preserved
loop-set-preserved c =
    let m = c.args.sets.now in
    let nodes = is_in c.args.nodes.now in
    let item : node_map.get node_cmp m c.in-Some.field-0-0.now ≡ Some c.in-Some.set.now =
    All-turn deref_pair (λ e. node_map.get node_cmp m e.0 ≡ Some e.1) _ _ _ _ _ _ _ c.into_iter-set-iterator.ensures.into_iter_gives.6 c.into_iter-set-iterator.ensures.into_iter_gives.0 c.loop-set.yielded_by c.in-Some.is c.next.ensures.steps
    in
    let before : Entries → Type 0 = λ rest. IsPass (set_of m) nodes nodes false rest in
    let P : QuorumTree → Type 0 = λ q. Satisfies nodes q in
    let here : Satisfies nodes c.set-set.result.now = c.is_satisfied_by.ensures.0 c.if-not-is_satisfied_by.false in
    record {
      enough = c.loop-set.invariant.enough;
      pass = pass_satisfied m nodes (c.in-Some.field-0-0.now, c.in-Some.set.now) _ item (subst P (c.set-set.ensures.value ∙ c.deref.ensures) here) (subst before c.in-Some.ensures.steps c.loop-set.invariant.pass);
    }

pub returns : goal.returns
returns c =
    let sets = set_of c.args.sets.now in
    let nodes = is_in c.args.nodes.now in
    let before : Entries → Type 0 = λ rest. IsPass sets nodes nodes false rest in
    pass_end sets nodes nodes (subst before c.in-None.ensures.steps.0 c.loop-set.invariant.pass)
