use Rattle.std.proofs.Common.{arith, ◌≡◌, ◌-◌, ◌≤◌, sym, ◌∙◌, subst, take, true, false, List, []}
use Rattle.std.proofs.lemmas.Grind.{common_steps}
use Rattle.std.proofs.lemmas.List.Elements.{All-more}
use Rattle.std.specs.List.{All}
use Rattle.scp_xdr.specs.Tree.{Trees}
use Rattle.scp_quorum.specs.QuorumTree.{Level, QuorumTree}
use Rattle.scp_quorum.specs.Sane.{levels}
use Rattle.scp_xdr.proofs.Answered.{refuted, shown}
use Rattle.scp_quorum.proofs.Depth.{IsWithin, each_within, all_within, none_within, within_none}
use Rattle.scp_quorum.proofs.quorum_set.+are_within.Goals as goal

apart : false ≡ true → ⊥
apart e = cc

pub returns-then-most-eq0 : goal.returns-then-most-eq0
returns-then-most-eq0 t c = (
  λ yes. within_none c.args.most c.args.sets.now (grind (arith, common_steps)),
  λ h. let none : c.args.sets.now ≡ [] = none_within c.args.most c.args.sets.now c.if-most-eq0.true h in grind (arith, common_steps),
)

pub returns-then-not-are_within : goal.returns-then-not-are_within
returns-then-not-are_within t c =
    refuted (λ h.
    let each : All (IsWithin (c.args.most - 1)) c.args.sets.now = each_within c.args.most c.args.sets.now (omega (arith, c.if-most-eq0.false)) h in
    let one : IsWithin (c.args.most - 1) c.set-item.result = subst (IsWithin (c.args.most - 1)) (sym c.set-item.is) (each c.loop-set.set-index c.set-item.result c.loop-set-test.true) in
    let P : Trees Level → Type 0 = λ row. levels row ≤ c.args.most - 1 in
    apart (sym c.if-not-are_within.true ∙ c.are_within.ensures.1 (subst P (sym c.inner_sets.ensures) one)))

pub loop-set-preserved : goal.loop-set-preserved
loop-set-preserved t c =
    let P : Trees Level → Type 0 = λ row. levels row ≤ c.args.most - 1 in
    let one : IsWithin (c.args.most - 1) c.set-item.result = subst P c.inner_sets.ensures (c.are_within.ensures.0 c.if-not-are_within.false) in
    record {
      so_far = All-more (IsWithin (c.args.most - 1)) c.args.sets.now c.loop-set.set-index c.set-item.result c.loop-set-test.true c.loop-set.invariant.so_far (subst (IsWithin (c.args.most - 1)) c.set-item.is one);
    }

pub returns : goal.returns
returns t c =
    let all : take c.loop-set.set-index c.args.sets.now ≡ c.args.sets.now = grind (arith, common_steps) in
    let P : List QuorumTree → Type 0 = λ qs. All (IsWithin (c.args.most - 1)) qs in
    shown (all_within c.args.most c.args.sets.now (omega (arith, c.if-most-eq0.false)) (subst P all c.loop-set.invariant.so_far))
