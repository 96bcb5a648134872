use Rattle.std.proofs.Common.{◌<◌, refl, arith}
use Rattle.scp_vote.specs.scp_types.specs.declared.ballot.Ballot.{Ballot}
use Rattle.scp_vote.specs.declared.claim.Claim.TheVariants.{Committed}
use Rattle.scp_ballot_rules.specs.Told.{ballots_on}
use Rattle.scp_ballot_rules.specs.inside.Told.{Reached}
use Rattle.scp_ballot_rules.specs.inside.Finding.{IsWithin}
use Rattle.scp_ballot_rules.proofs.Firsts.{first_start, first_more, first_end}
use Rattle.scp_ballot_rules.proofs.range.highest.Goals as goal

pub loop-boundary-init : goal.loop-boundary-init
loop-boundary-init c =
    let P : Ballot → Type 0 = λ x. ((c.args.floor < x.counter) × IsWithin c.args.bound.now x) × Reached c.args.stage (ballots_on c.args.board.now) (Committed x.counter x.counter x.value) in
    first_start c.args.boundaries.now P _ refl

pub loop-boundary-preserved : goal.loop-boundary-preserved
loop-boundary-preserved c =
    let P : Ballot → Type 0 = λ x. ((c.args.floor < x.counter) × IsWithin c.args.bound.now x) × Reached c.args.stage (ballots_on c.args.board.now) (Committed x.counter x.counter x.value) in
    first_more c.args.boundaries.now c.loop-boundary.boundary-index c.boundary-item.result (omega arith) c.boundary-item.is P c.loop-boundary.best _ c.loop-boundary.invariant c.in_ok-best.ensures.leads

pub returns-clause-first : goal.returns-clause-first
returns-clause-first c =
    let P : Ballot → Type 0 = λ x. ((c.args.floor < x.counter) × IsWithin c.args.bound.now x) × Reached c.args.stage (ballots_on c.args.board.now) (Committed x.counter x.counter x.value) in
    first_end c.args.boundaries.now P c.loop-boundary.boundary-index c.loop-boundary.best (omega arith) c.loop-boundary.invariant
