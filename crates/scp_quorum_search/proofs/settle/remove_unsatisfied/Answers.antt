use Rattle.std.proofs.Common.{◌≡◌, ◌+◌, Bool, List, take, arith, sym, subst}
use Rattle.std.specs.List.{All}
use Rattle.std.proofs.lemmas.Bool.{OnTrue_at, OnTrue_from, OnFalse_at, OnFalse_from}
use Rattle.std.proofs.lemmas.Grind.{common_steps}
use Rattle.scp_quorum.specs.NodeSet.{is_in}
use Rattle.scp_quorum_search.specs.declared.member.Member.{Member}
use Rattle.scp_quorum_search.proofs.Settling.{IsPass, IsContent, pass_none, pass_removes, pass_stays}
use Rattle.scp_quorum_search.proofs.settle.remove_unsatisfied.Goals as goal
use Rattle.scp_quorum_search.proofs.settle.remove_unsatisfied.Goals.{then-remove_if_unsatisfied, else-remove_if_unsatisfied}

pub loop-member-init : goal.loop-member-init
loop-member-init c = pass_none (is_in c.args.liars.now) c.args.members.now c.args.nodes.now

pub loop-member-preserved : goal.loop-member-preserved
loop-member-preserved c =
    let liars = is_in c.args.liars.now in
    let members = c.args.members.now in
    let old = c.args.nodes.now in
    let now = c.loop-member.nodes in
    let new = c.remove_if_unsatisfied.new.nodes in
    let i = c.loop-member.member-index in
    let P : Bool → Type 0 = λ b. IsPass liars members old new b (take (i + 1) members) in
    elim c.if-remove_if_unsatisfied.branch [
      | then-remove_if_unsatisfied w ↦
          subst P (sym w.removed-is) (pass_removes liars members old now new c.loop-member.removed i c.member-item.result c.loop-member-test.true c.member-item.is c.loop-member.invariant c.remove_if_unsatisfied.ensures.within c.remove_if_unsatisfied.ensures.kept (OnTrue_at w.if-remove_if_unsatisfied.true c.remove_if_unsatisfied.ensures.fewer))
      | else-remove_if_unsatisfied w ↦
          subst P (sym w.removed-is) (pass_stays liars members old now new c.loop-member.removed i c.member-item.result c.loop-member-test.true c.member-item.is c.loop-member.invariant (OnFalse_at w.if-remove_if_unsatisfied.false c.remove_if_unsatisfied.ensures.same) (OnFalse_at w.if-remove_if_unsatisfied.false c.remove_if_unsatisfied.ensures.settled))
    ]

pub returns-clause-fewer : goal.returns-clause-fewer
returns-clause-fewer c = OnTrue_from c.loop-member.removed _ c.loop-member.invariant.fewer

pub returns-clause-settled : goal.returns-clause-settled
returns-clause-settled c =
    OnFalse_from c.loop-member.removed _
    (λ e.
    let P : List Member → Type 0 = λ ms. All (IsContent (is_in c.args.liars.now) (is_in c.loop-member.nodes)) ms in
    let whole : take c.loop-member.member-index c.args.members.now ≡ c.args.members.now = grind (arith, common_steps) in
    subst P whole (c.loop-member.invariant.settled e))
