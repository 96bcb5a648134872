use Rattle.std.proofs.Common.{◌≡◌, ◌+◌, Bool, List, take, arith, sym, subst}
use Rattle.std.specs.List.{All}
use Rattle.std.proofs.lemmas.Bool.{OnTrue_at, OnTrue_from, OnFalse_at, OnFalse_from}
use Rattle.std.proofs.lemmas.Grind.{common_steps}
use Rattle.scp_quorum.specs.declared.quorum.groups.Group.{Group}
use Rattle.scp_quorum.specs.NodeSet.{is_in}
use Rattle.scp_quorum.specs.inside.Groups.{IsSettled}
use Rattle.scp_quorum.proofs.Groups.{IsGroupPass, group_pass_none, group_removed, group_stays}
use Rattle.scp_quorum.proofs.quorum.remove_unsatisfied.Goals as goal
use Rattle.scp_quorum.proofs.quorum.remove_unsatisfied.Goals.{then-remove_if_unsatisfied, else-remove_if_unsatisfied}

pub loop-group-init : goal.loop-group-init
loop-group-init c = group_pass_none c.args.groups.now c.args.remaining.now

pub loop-group-preserved : goal.loop-group-preserved
loop-group-preserved c =
    let groups = c.args.groups.now in
    let old = c.args.remaining.now in
    let now = c.loop-group.remaining in
    let new = c.remove_if_unsatisfied.new.remaining in
    let i = c.loop-group.group-index in
    let P : Bool → Type 0 = λ b. IsGroupPass groups old new b (take (i + 1) groups) in
    elim c.if-remove_if_unsatisfied.branch [
      | then-remove_if_unsatisfied w ↦
          subst P (sym w.removed-is) (group_removed groups old now new c.loop-group.removed i c.group-item.result c.loop-group-test.true c.group-item.is c.loop-group.invariant c.remove_if_unsatisfied.ensures.within c.remove_if_unsatisfied.ensures.kept (OnTrue_at w.if-remove_if_unsatisfied.true c.remove_if_unsatisfied.ensures.fewer))
      | else-remove_if_unsatisfied w ↦
          subst P (sym w.removed-is) (group_stays groups old now new c.loop-group.removed i c.group-item.result c.loop-group-test.true c.group-item.is c.loop-group.invariant (OnFalse_at w.if-remove_if_unsatisfied.false c.remove_if_unsatisfied.ensures.same) (OnFalse_at w.if-remove_if_unsatisfied.false c.remove_if_unsatisfied.ensures.settled))
    ]

pub returns-clause-fewer : goal.returns-clause-fewer
returns-clause-fewer c = OnTrue_from c.loop-group.removed _ c.loop-group.invariant.fewer

pub returns-clause-settled : goal.returns-clause-settled
returns-clause-settled c =
    OnFalse_from c.loop-group.removed _
    (λ e.
    let P : List Group → Type 0 = λ gs. All (IsSettled (is_in c.loop-group.remaining)) gs in
    let whole : take c.loop-group.group-index c.args.groups.now ≡ c.args.groups.now = grind (arith, common_steps) in
    subst P whole (c.loop-group.invariant.settled e))
