use Rattle.std.proofs.Common.{sym, subst, arith, Option}
use Rattle.scp_vote.specs.scp_types.specs.declared.ballot.Ballot.{Ballot}
use Rattle.scp_vote.specs.declared.claim.Claim.TheVariants.{Prepared}
use Rattle.scp_ballot_rules.specs.Told.{ballots_on}
use Rattle.scp_ballot_rules.specs.inside.Told.{Reached}
use Rattle.scp_ballot_rules.specs.inside.Finding.{IsWithin}
use Rattle.scp_ballot_rules.proofs.Best.{IsGreatestBefore, greatest_start, greatest_more, greatest_end}
use Rattle.scp_ballot_rules.proofs.finding.greatest.Goals as goal

pub loop-ballot-init : goal.loop-ballot-init
loop-ballot-init c =
    let P : Ballot → Type 0 = λ x. IsWithin c.args.bound.now x × Reached c.args.stage (ballots_on c.args.board.now) (Prepared x) in
    subst (λ (o : Option Ballot). IsGreatestBefore P c.args.list.now 0 c.args.floor.now o) (sym c.in_ok-best.ensures.same) (greatest_start P c.args.list.now c.args.floor.now)

pub loop-ballot-preserved : goal.loop-ballot-preserved
loop-ballot-preserved c =
    let P : Ballot → Type 0 = λ x. IsWithin c.args.bound.now x × Reached c.args.stage (ballots_on c.args.board.now) (Prepared x) in
    greatest_more c.args.list.now c.loop-ballot.ballot-index c.ballot-item.result (omega arith) c.ballot-item.is P c.args.floor.now c.loop-ballot.best _ c.loop-ballot.invariant c.in_ok-best-2.ensures.better

pub returns-clause-greatest : goal.returns-clause-greatest
returns-clause-greatest c =
    let P : Ballot → Type 0 = λ x. IsWithin c.args.bound.now x × Reached c.args.stage (ballots_on c.args.board.now) (Prepared x) in
    greatest_end P c.args.list.now c.loop-ballot.ballot-index c.args.floor.now c.loop-ballot.best (omega arith) c.loop-ballot.invariant
