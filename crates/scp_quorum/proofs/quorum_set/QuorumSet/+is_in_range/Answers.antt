use Rattle.std.proofs.Common.{arith, ◌≡◌, sym, ◌∙◌, subst, take, true, false, List}
use Rattle.std.proofs.lemmas.List.Elements.{All-more}
use Rattle.std.proofs.lemmas.Grind.{common_steps}
use Rattle.std.specs.List.{All}
use Rattle.scp_quorum.specs.QuorumTree.{QuorumTree}
use Rattle.scp_quorum.specs.Sane.{IsInRange}
use Rattle.scp_xdr.proofs.Rows.{row_len-in_a_row}
use Rattle.scp_xdr.proofs.Answered.{refuted, shown}
use Rattle.scp_quorum.proofs.Ranges.{each_in_range, all_in_range}
use Rattle.scp_quorum.proofs.quorum_set.QuorumSet.+is_in_range.Goals as goal
use Rattle.scp_quorum.proofs.quorum_set.QuorumSet.+is_in_range.Goals.{then-self-eq0-via-then-self-eq0, then-self-eq0-via-else-self-eq0+then-self-entries}

pub returns-then-self-eq0 : goal.returns-then-self-eq0
returns-then-self-eq0 t c =
    rw (← c.self.view_is)
    (refuted (λ h. elim c.then-self-eq0.branch [
      | then-self-eq0-via-then-self-eq0 w ↦ omega (arith, h.0)
      | then-self-eq0-via-else-self-eq0+then-self-entries w ↦ omega (arith, h.1, row_len-in_a_row c.self.inside.inner_sets.items)
    ]))

pub returns-then-not-is_in_range : goal.returns-then-not-is_in_range
returns-then-not-is_in_range t c =
    rw (← c.self.view_is)
    (refuted (λ h.
    let each : All IsInRange c.self.inside.inner_sets.items = each_in_range c.self.inside.inner_sets.items h.2 in
    let P : List QuorumTree → Type 0 = λ qs. All IsInRange qs in
    let here : All IsInRange c.deref-inner-items.result.now = subst P (sym c.deref-inner-items.ensures.value) each in
    apart (sym c.if-not-is_in_range.true ∙ c.is_in_range.ensures.1 (subst IsInRange (sym c.inner-item.is) (here c.loop-inner.inner-index c.inner-item.result c.loop-inner-test.true)))))
  where
    apart : false ≡ true → ⊥
    apart e = cc

pub loop-inner-preserved : goal.loop-inner-preserved
loop-inner-preserved t c = record {
  so_far = All-more IsInRange c.deref-inner-items.result.now c.loop-inner.inner-index c.inner-item.result c.loop-inner-test.true c.loop-inner.invariant.so_far (subst IsInRange c.inner-item.is (c.is_in_range.ensures.0 c.if-not-is_in_range.false));
  all = c.loop-inner.invariant.all;
}

pub returns : goal.returns
returns t c =
    let all : take c.loop-inner.inner-index c.deref-inner-items.result.now ≡ c.self.inside.inner_sets.items = grind (arith, common_steps) in
    let P : List QuorumTree → Type 0 = λ qs. All IsInRange qs in
    rw (← c.self.view_is)
    (shown (
      omega (arith, c.if-self-eq0.false),
      omega (arith, row_len-in_a_row c.self.inside.inner_sets.items, c.if-self-entries.false),
      all_in_range c.self.inside.inner_sets.items (subst P all c.loop-inner.invariant.so_far),
    ))
