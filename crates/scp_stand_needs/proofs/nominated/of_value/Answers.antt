use Rattle.std.proofs.Common.{List, ℕ, IfOk, subst}
use Rattle.std.proofs.lemmas.Result.{IfOk-weaker}
use Rattle.scp_ballot_rules.specs.scp_vote.specs.declared.claim.Claim.TheVariants.{Nominated}
use Rattle.scp_ballot_rules.specs.scp_vote.specs.declared.claim.StatementKind.TheVariants.{Nomination}
use Rattle.scp_ballot_rules.specs.scp_vote.specs.Seen.{seen}
use Rattle.scp_stand_needs.specs.declared.steps.Step.TheVariants.{AcceptNominated, ConfirmNominated}
use Rattle.scp_stand_needs.specs.Needs.{IsNominationDue}
use Rattle.scp_stand_needs.specs.inside.Found.{IsNext, IsNeedFor}
use Rattle.scp_stand_needs.proofs.Due.{nominated_for}
use Rattle.scp_stand_needs.proofs.nominated.of_value.Goals as goal

pub returns-clause-next : goal.returns-clause-next
returns-clause-next c =
    let board = c.args.board.now in
    let members = c.args.members.now in
    IfOk-weaker c.next.result (IsNext board members AcceptNominated ConfirmNominated (Nominated c.args.value.now)) (IsNeedFor board members (IsNominationDue (seen Nomination board)) c.args.value.now)
    (λ next h. nominated_for board members c.args.value.now next c.requires.named h)
    (subst (λ (v : List ℕ). IfOk c.next.result (IsNext board members AcceptNominated ConfirmNominated (Nominated v))) c.in_ok-copy.ensures.same c.next.ensures.next)
