use Rattle.std.proofs.Common.{inl, inr}
use Rattle.std.proofs.Common.{Some, None}
use Rattle.scp_ballot_rules.specs.declared.state.Phase.TheVariants.{Prepare}
use Rattle.scp_ballot_rules.specs.AcceptPrepared.{AcceptPrepared}
use Rattle.scp_ballot_rules.specs.ConfirmPrepared.{ConfirmPrepared}
use Rattle.scp_ballot_rules.specs.AcceptCommit.{AcceptCommit}
use Rattle.scp_ballot_rules.specs.RaiseCounter.{RaiseCounter}
use Rattle.scp_ballot_rules.specs.Steps.{OrElse}
use Rattle.scp_ballot_rules.proofs.Answering.{answers_first, answers_then, step_preparing}
use Rattle.scp_ballot_rules.specs.Told.{ballots_on}
use Rattle.scp_ballot.proofs.next.next_preparing.Goals as goal

pub returns-in-Some-clause-step : goal.returns-in-Some-clause-step
returns-in-Some-clause-step c =
    let h = rw c.in-Some.is at c.in_ok-next.ensures.step in
    inl (c.requires.phase, elim h [ inl accepts ↦ inl accepts | inr confirms ↦ inr (inl confirms) ])

pub returns-in-Some-2-clause-step : goal.returns-in-Some-2-clause-step
returns-in-Some-2-clause-step c =
    let h = rw c.in-Some-2.is at c.in_ok-next-in-None.ensures.step in
    inl (c.requires.phase, elim h [ inl commits ↦ inr (inr (inl commits)) | inr raises ↦ inr (inr (inr raises)) ])

pub returns-in-None-2-clause-rests : goal.returns-in-None-2-clause-rests
returns-in-None-2-clause-rests c =
    let h = rw c.in-None.is at c.in_ok-next.ensures.rests in
    let k = rw c.in-None-2.is at c.in_ok-next-in-None.ensures.rests in
    record { accepts = h.0; confirms = h.1; commits = k.0; raises = k.1 }

pub returns-in-Some-clause-exact : goal.returns-in-Some-clause-exact
returns-in-Some-clause-exact c =
    let b = ballots_on c.args.board.now in
    let h = rw c.in-Some.is at c.in_ok-next.ensures.exact in
    step_preparing b c.args.state.now (Some c.in-Some.next) c.requires.phase (answers_first (OrElse (AcceptPrepared Prepare b) (ConfirmPrepared Prepare b)) (OrElse (AcceptCommit Prepare b) (RaiseCounter b)) c.args.state.now c.in-Some.next h)

pub returns-in-Some-2-clause-exact : goal.returns-in-Some-2-clause-exact
returns-in-Some-2-clause-exact c =
    let b = ballots_on c.args.board.now in
    let h = rw c.in-None.is at c.in_ok-next.ensures.exact in
    let k = rw c.in-Some-2.is at c.in_ok-next-in-None.ensures.exact c.requires.phase in
    step_preparing b c.args.state.now (Some c.in-Some-2.next) c.requires.phase (answers_then (OrElse (AcceptPrepared Prepare b) (ConfirmPrepared Prepare b)) (OrElse (AcceptCommit Prepare b) (RaiseCounter b)) c.args.state.now (Some c.in-Some-2.next) h k)

pub returns-in-None-2-clause-exact : goal.returns-in-None-2-clause-exact
returns-in-None-2-clause-exact c =
    let b = ballots_on c.args.board.now in
    let h = rw c.in-None.is at c.in_ok-next.ensures.exact in
    let k = rw c.in-None-2.is at c.in_ok-next-in-None.ensures.exact c.requires.phase in
    step_preparing b c.args.state.now None c.requires.phase (answers_then (OrElse (AcceptPrepared Prepare b) (ConfirmPrepared Prepare b)) (OrElse (AcceptCommit Prepare b) (RaiseCounter b)) c.args.state.now None h k)
