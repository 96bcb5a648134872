use Rattle.std.proofs.Common.{◌≡◌, ◌<◌, List, arith, sym, ◌∙◌, subst}
use Rattle.std.proofs.lemmas.Bool.{OnTrue_at}
use Rattle.std.proofs.lemmas.List.Elements.{All-nil}
use Rattle.scp_quorum.specs.scp_types.specs.declared.names.NodeId.{NodeId}
use Rattle.scp_quorum.specs.scp_xdr.specs.Tree.{Trees}
use Rattle.scp_quorum.specs.scp_xdr.specs.inside.TreeModel.{tree_count}
use Rattle.scp_quorum.specs.QuorumTree.{Level}
use Rattle.scp_quorum.proofs.Smaller.{inner_is_smaller}
use Rattle.scp_quorum_search.specs.inside.Sides.{AreAsOften, StandInRow, StandTogether}
use Rattle.scp_quorum_search.proofs.Sets.{all_seen}
use Rattle.scp_quorum_search.proofs.Rows.{row_together, one_more}
use Rattle.scp_quorum_search.proofs.sides.+stand_together.Goals as goal

pub stand_together-requires : goal.stand_together-requires
stand_together-requires t c =
    let smaller : tree_count c.inner-item.result < tree_count c.args.set.now =
    inner_is_smaller c.args.set.now c.inner_sets-inner-items.result.now c.loop-inner.inner-index c.inner-item.result c.loop-inner-test.true c.loop-inner.invariant.row c.inner-item.is
    in
    (omega (arith, smaller, c.decreases), tt)

pub loop-inner-init : goal.loop-inner-init
loop-inner-init t c = record { row = c.inner_sets-inner-items.ensures; so_far = All-nil (StandTogether c.args.a.now c.args.b.now) }

pub loop-inner-preserved : goal.loop-inner-preserved
loop-inner-preserved t c = record {
  row = c.loop-inner.invariant.row;
  so_far = one_more (StandTogether c.args.a.now c.args.b.now) c.inner_sets-inner-items.result.now c.loop-inner.inner-index c.inner-item.result c.loop-inner-test.true c.inner-item.is c.loop-inner.invariant.so_far (OnTrue_at c.if-not-stand_together.false c.stand_together.ensures);
}

pub returns : goal.returns
returns t c =
    let a = c.args.a.now in
    let b = c.args.b.now in
    let even : c.count_of-one.result ≡ c.count_of-other.result = omega (arith, c.if-one-other.false) in
    let P : List NodeId → Type 0 = λ vs. AreAsOften a b vs in
    let here : P c.validators-validators.result.now = sym c.count_of-one.ensures ∙ even ∙ c.count_of-other.ensures in
    let Q : Trees Level → Type 0 = λ row. StandInRow a b row in (
      subst P c.validators-validators.ensures here,
      subst Q c.loop-inner.invariant.row
          (row_together a b c.inner_sets-inner-items.result.now
          (all_seen (StandTogether a b) c.inner_sets-inner-items.result.now c.loop-inner.inner-index (omega arith) c.loop-inner.invariant.so_far)),
    )
