use Rattle.std.proofs.Common.{◌≡◌, ◌≤◌, false, List, length, arith, sym, ap, subst}
use Rattle.std.specs.List.{All, Any, Contains}
use Rattle.std.proofs.lemmas.Bool.{OnTrue_at, OnFalse_at}
use Rattle.scp_quorum.specs.scp_types.specs.declared.names.NodeId.{NodeId}
use Rattle.scp_quorum.specs.NodeSet.{is_in}
use Rattle.scp_quorum_search.proofs.Sets.{empty_has_none}
use Rattle.scp_quorum_search.proofs.Counting.{power_more}
use Rattle.scp_quorum_search.proofs.Alone.{each_smallest, all_smallest}
use Rattle.scp_quorum_search.proofs.halting.halting_within.Goals as goal

pub returns-in-true-clause-shows : goal.returns-in-true-clause-shows
returns-in-true-clause-shows c =
    let E : List NodeId → Type 0 = λ vs. All (λ v. Any (λ m. m.node ≡ v) c.args.members.now) vs in
    let H : List NodeId → Type 0 = λ vs. All (λ v. is_in c.new-liars.result v ≡ false) vs in
    let A : List NodeId → Type 0 = λ vs. All (λ m. is_in c.new-liars.result m.node ≡ false → Contains vs m.node) c.args.members.now in
    let L : List NodeId → Type 0 = λ vs. All (λ v. (v ≡ c.args.at.now → ⊥) → Contains vs v) c.as_slice-all.result.now in
    let same = sym c.as_slice-all.ensures.value in
    let free = empty_has_none c.new-liars.result c.new-liars.ensures.empty in (
      each_smallest _ (record { free = free; each = subst E same c.in_ok-all.ensures.each; honest = subst H same c.in_ok-all.ensures.honest; every = subst A same c.in_ok-all.ensures.all })
          c.args.at.now c.gather.new.found.items (c.in_ok-gather.ensures.each (λ k d lt. absurd (omega (arith, lt, ap length c.new-found.ensures.items)))),
      all_smallest _ (record { free = free; each = subst E same c.in_ok-all.ensures.each; honest = subst H same c.in_ok-all.ensures.honest; every = subst A same c.in_ok-all.ensures.all })
          c.args.at.now (is_in c.new-lost.result) c.as_slice.result.now c.gather.new.found.items (empty_has_none c.new-lost.result c.new-lost.ensures.empty) (subst L (sym c.as_slice.ensures.value) c.in_ok-left.ensures.all)
          (OnTrue_at c.in-true.is c.in_ok-gather.ensures.all),
    )

pub returns-in-true-clause-few : goal.returns-in-true-clause-few
returns-in-true-clause-few c =
    let fewer : length c.as_slice.result.now ≤ length c.args.members.now = omega (arith, ap length c.as_slice.ensures.value, c.in_ok-left.ensures.no_more, ap length c.as_slice-all.ensures.value, c.in_ok-all.ensures.no_more) in
    omega (arith, c.in_ok-gather.ensures.few, power_more (length c.as_slice.result.now) (length c.args.members.now) fewer)

pub returns-clause-shows : goal.returns-clause-shows
returns-clause-shows c =
    let E : List NodeId → Type 0 = λ vs. All (λ v. Any (λ m. m.node ≡ v) c.args.members.now) vs in
    let H : List NodeId → Type 0 = λ vs. All (λ v. is_in c.new-liars.result v ≡ false) vs in
    let A : List NodeId → Type 0 = λ vs. All (λ m. is_in c.new-liars.result m.node ≡ false → Contains vs m.node) c.args.members.now in
    let same = sym c.as_slice-all.ensures.value in
    let free = empty_has_none c.new-liars.result c.new-liars.ensures.empty in (
      each_smallest _ (record { free = free; each = subst E same c.in_ok-all.ensures.each; honest = subst H same c.in_ok-all.ensures.honest; every = subst A same c.in_ok-all.ensures.all })
          c.args.at.now c.gather.new.found.items (c.in_ok-gather.ensures.each (λ k d lt. absurd (omega (arith, lt, ap length c.new-found.ensures.items)))),
      OnFalse_at c.in-false.is c.in_ok-gather.ensures.spent,
    )

pub returns-clause-few : goal.returns-clause-few
returns-clause-few c =
    let fewer : length c.as_slice.result.now ≤ length c.args.members.now = omega (arith, ap length c.as_slice.ensures.value, c.in_ok-left.ensures.no_more, ap length c.as_slice-all.ensures.value, c.in_ok-all.ensures.no_more) in
    omega (arith, c.in_ok-gather.ensures.few, power_more (length c.as_slice.result.now) (length c.args.members.now) fewer)
