use Rattle.std.proofs.Common.{List, ℕ, subst}
use Rattle.scp_ballot_rules.specs.scp_vote.specs.declared.claim.Claim.TheVariants.{Committed}
use Rattle.scp_stand_needs.specs.declared.steps.Step.TheVariants.{ConfirmCommit}
use Rattle.scp_stand_needs.specs.inside.Found.{IsNeedOf}
use Rattle.scp_stand_needs.proofs.DueBallots.{confirm_needs}
use Rattle.scp_stand_needs.proofs.balloted.confirming.Goals as goal

pub returns-clause-needs : goal.returns-clause-needs
returns-clause-needs c =
    let board = c.args.board.now in
    let members = c.args.members.now in
    let confirm = c.args.confirm.now in
    confirm_needs board members confirm c.requires.own c.add.new.needs.items c.new-needs.result.items c.in_ok-need.need
    (subst (λ (v : List ℕ). IsNeedOf board members ConfirmCommit (Committed confirm.n_high confirm.n_high v) c.in_ok-need.need) c.in_ok-value.ensures.same c.in_ok-need.ensures.need)
    c.new-needs.ensures.items c.in_ok-add.ensures
