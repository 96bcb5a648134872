use Rattle.std.proofs.Common.{arith, ◌<◌, ◌≡◌, Some, sym, ◌∙◌, subst, false, true}
use Rattle.std.specs.BTreeMap as node_map
use Rattle.std.specs.Map.Iter.{deref_pair}
use Rattle.std.proofs.lemmas.Map.Views.{All-turn}
use Rattle.scp_quorum.specs.NodeSet.{is_in, node_cmp}
use Rattle.scp_quorum.specs.Satisfies.{Satisfies}
use Rattle.scp_quorum.specs.QuorumTree.{QuorumTree}
use Rattle.std.specs.BTreeSet.{btree_set_len}
use Rattle.scp_quorum.specs.Quorum.{set_of}
use Rattle.scp_quorum.proofs.Pass.{Entries, IsPass, set_of-entry, pass_by, pass_removes}
use Rattle.scp_quorum.proofs.quorum.passes.remove_unsatisfied.Goals as goal
use Rattle.scp_quorum.proofs.quorum.passes.remove_unsatisfied.Goals.{else-contains-via-then-contains+else-not-satisfied, else-contains-via-else-contains}

pub loop-node-preserved : goal.loop-node-preserved
loop-node-preserved c =
    let sets = set_of c.args.sets.now in
    let now = is_in c.loop-node.remaining in
    let item : node_map.get node_cmp c.args.sets.now c.in-Some.node.now ≡ Some c.in-Some.set.now =
    All-turn deref_pair (λ e. node_map.get node_cmp c.args.sets.now e.0 ≡ Some e.1) _ _ _ _ _ _ _ c.into_iter-node-iterator.ensures.into_iter_gives.6 c.into_iter-node-iterator.ensures.into_iter_gives.0 c.loop-node.yielded_by c.in-Some.is c.next.ensures.steps
    in
    let before : Entries → Type 0 = λ rest. IsPass sets (is_in c.args.remaining.now) now c.loop-node.removed rest in
    let here : now c.in-Some.node.now ≡ true → Satisfies now c.in-Some.set.now.value =
    elim c.else-contains.branch [
      | else-contains-via-then-contains+else-not-satisfied w ↦ (λ has. let P : QuorumTree → Type 0 = λ q. Satisfies now q in subst P (w.set.ensures.value ∙ w.deref.ensures) (w.satisfied.ensures.0 w.if-not-satisfied.false))
      | else-contains-via-else-contains w ↦ (λ has. absurd (apart (sym has ∙ sym c.contains.ensures ∙ w.if-contains.false)))
    ]
    in
    record {
      pass = pass_by sets (is_in c.args.remaining.now) now (c.in-Some.node.now, c.in-Some.set.now) _ (set_of-entry c.args.sets.now (c.in-Some.node.now, c.in-Some.set.now) item) c.loop-node.removed here (subst before c.in-Some.ensures.steps c.loop-node.invariant.pass);
      no_more = c.loop-node.invariant.no_more;
      fewer = c.loop-node.invariant.fewer;
    }
  where
    apart : true ≡ false → ⊥
    apart e = cc

pub loop-node-preserved-then-not-satisfied : goal.loop-node-preserved-then-not-satisfied
loop-node-preserved-then-not-satisfied c =
    let sets = set_of c.args.sets.now in
    let now = is_in c.loop-node.remaining in
    let item : node_map.get node_cmp c.args.sets.now c.in-Some.node.now ≡ Some c.in-Some.set.now =
    All-turn deref_pair (λ e. node_map.get node_cmp c.args.sets.now e.0 ≡ Some e.1) _ _ _ _ _ _ _ c.into_iter-node-iterator.ensures.into_iter_gives.6 c.into_iter-node-iterator.ensures.into_iter_gives.0 c.loop-node.yielded_by c.in-Some.is c.next.ensures.steps
    in
    let before : Entries → Type 0 = λ rest. IsPass sets (is_in c.args.remaining.now) now c.loop-node.removed rest in
    let fails : Satisfies now c.in-Some.set.now.value → ⊥ =
    λ h. let P : QuorumTree → Type 0 = λ q. Satisfies now q in apart (sym (c.satisfied.ensures.1 (subst P (sym (c.set.ensures.value ∙ c.deref.ensures)) h)) ∙ c.if-not-satisfied.true)
    in
    let one_less : btree_set_len c.remove.new.self < btree_set_len c.loop-node.remaining =
    let was : c.remove.result ≡ true = c.remove.ensures.test ∙ sym c.contains.ensures ∙ c.if-contains.true in
    omega (arith, rw was at c.remove.ensures.len)
    in
    record {
      pass = pass_removes sets (is_in c.args.remaining.now) now (c.in-Some.node.now, c.in-Some.set.now) _ (set_of-entry c.args.sets.now (c.in-Some.node.now, c.in-Some.set.now) item) (is_in c.remove.new.self) c.loop-node.removed fails c.remove.ensures.updates.0 (subst before c.in-Some.ensures.steps c.loop-node.invariant.pass);
      no_more = omega (arith, c.loop-node.invariant.no_more, one_less);
      fewer = λ _. omega (arith, c.loop-node.invariant.no_more, one_less);
    }
  where
    apart : true ≡ false → ⊥
    apart e = cc
