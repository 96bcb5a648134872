use Rattle.std.proofs.Common.{◌≡◌, ◌∙◌, List, ℕ, IfOk, subst}
use Rattle.std.proofs.lemmas.Result.{IfOk-weaker}
use Rattle.scp_kv.specs.scp_types.specs.declared.ballot.Ballot.{Ballot}
use Rattle.scp_ballot_rules.specs.Greatest.{ballot_at}
use Rattle.scp_ballot_rules.specs.scp_vote.specs.declared.claim.Claim.TheVariants.{Prepared, Committed}
use Rattle.scp_ballot_rules.specs.scp_vote.specs.declared.claim.StatementKind.TheVariants.{Balloting}
use Rattle.scp_ballot_rules.specs.scp_vote.specs.Seen.{seen}
use Rattle.scp_stand_needs.specs.declared.steps.Step.TheVariants.{AcceptPrepared, ConfirmPrepared, AcceptCommit}
use Rattle.scp_stand_needs.specs.Needs.{IsBallotDue}
use Rattle.scp_stand_needs.specs.inside.Found.{IsNeedOf, IsNext, IsNeedFor}
use Rattle.scp_stand_needs.proofs.DueBallots.{prepared_next, prepared_done, bounded_for, unbounded_for}
use Rattle.scp_stand_needs.proofs.balloted.of_value.Goals as goal

pub returns-then-is_some-clause-next : goal.returns-then-is_some-clause-next
returns-then-is_some-clause-next c =
    let board = c.args.board.now in
    let members = c.args.members.now in
    let same : c.in_ok-share.field-0 ≡ c.args.value.now = c.in_ok-share.ensures.same ∙ c.in_ok-shared.ensures.same ∙ c.in_ok-copy.ensures.same in
    prepared_next board members (ballot_at c.args.counter c.args.value.now) c.in_ok-need.need c.is_some.result c.is_some.ensures c.if-is_some.true c.requires.top c.requires.preparing
    (subst (λ (v : List ℕ). IsNext board members AcceptPrepared ConfirmPrepared (Prepared (ballot_at c.args.counter v)) c.in_ok-need.need) same c.in_ok-need.ensures.next)

pub returns-in-Some-clause-next : goal.returns-in-Some-clause-next
returns-in-Some-clause-next c =
    let board = c.args.board.now in
    let members = c.args.members.now in
    let x : Ballot = ballot_at c.args.counter c.args.value.now in
    let value : c.in_ok-shared.shared ≡ c.args.value.now = c.in_ok-shared.ensures.same ∙ c.in_ok-copy.ensures.same in
    let same : c.in_ok-share.field-0 ≡ c.args.value.now = c.in_ok-share.ensures.same ∙ value in
    let done = prepared_done board members x c.in_ok-need.need c.is_some.result c.is_some.ensures c.if-is_some.false
    (subst (λ (v : List ℕ). IsNext board members AcceptPrepared ConfirmPrepared (Prepared (ballot_at c.args.counter v)) c.in_ok-need.need) same c.in_ok-need.ensures.next) in
    IfOk-weaker c.of_commit.result (IsNeedOf board members AcceptCommit (Committed c.in-Some.end c.in-Some.end c.args.value.now)) (IsNeedFor board members (IsBallotDue (seen Balloting board)) c.args.value.now)
    (λ next h. bounded_for board members x c.requires.top c.requires.preparing c.in-Some.end c.args.bound next c.in-Some.is done c.requires.bound h)
    (subst (λ (v : List ℕ). IfOk c.of_commit.result (IsNeedOf board members AcceptCommit (Committed c.in-Some.end c.in-Some.end v))) value c.of_commit.ensures.need)

pub returns-in-None-clause-next : goal.returns-in-None-clause-next
returns-in-None-clause-next c =
    let board = c.args.board.now in
    let members = c.args.members.now in
    let x : Ballot = ballot_at c.args.counter c.args.value.now in
    let same : c.in_ok-share.field-0 ≡ c.args.value.now = c.in_ok-share.ensures.same ∙ c.in_ok-shared.ensures.same ∙ c.in_ok-copy.ensures.same in
    let done = prepared_done board members x c.in_ok-need.need c.is_some.result c.is_some.ensures c.if-is_some.false
    (subst (λ (v : List ℕ). IsNext board members AcceptPrepared ConfirmPrepared (Prepared (ballot_at c.args.counter v)) c.in_ok-need.need) same c.in_ok-need.ensures.next) in
    unbounded_for board members x c.requires.top c.requires.preparing c.args.bound c.in-None.is done c.requires.bound
