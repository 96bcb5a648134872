use Rattle.std.proofs.Common.{ℕ, arith}
use Rattle.scp_vote.specs.declared.claim.Claim.TheVariants.{Committed}
use Rattle.scp_ballot_rules.specs.Told.{ballots_on}
use Rattle.scp_ballot_rules.specs.inside.Told.{Reached}
use Rattle.scp_ballot_rules.proofs.Firsts.{least_start, least_more, least_end}
use Rattle.scp_ballot_rules.proofs.range.lowest.Goals as goal

pub loop-boundary-init : goal.loop-boundary-init
loop-boundary-init c =
    let R : ℕ → Type 0 = λ n. Reached c.args.stage (ballots_on c.args.board.now) (Committed n c.args.high.now.counter c.args.high.now.value) in
    least_start c.args.boundaries.now R c.args.high.now c.requires.high c.requires.there c.requires.reached

pub loop-boundary-preserved : goal.loop-boundary-preserved
loop-boundary-preserved c =
    let R : ℕ → Type 0 = λ n. Reached c.args.stage (ballots_on c.args.board.now) (Committed n c.args.high.now.counter c.args.high.now.value) in
    least_more c.args.boundaries.now c.loop-boundary.boundary-index c.boundary-item.result (omega arith) c.boundary-item.is R c.args.high.now.value c.args.high.now.counter c.loop-boundary.least c.in_ok-least.least c.requires.counted c.loop-boundary.invariant c.in_ok-least.ensures.lower

pub returns-clause-least : goal.returns-clause-least
returns-clause-least c =
    let R : ℕ → Type 0 = λ n. Reached c.args.stage (ballots_on c.args.board.now) (Committed n c.args.high.now.counter c.args.high.now.value) in
    least_end c.args.boundaries.now R c.args.high.now.value c.loop-boundary.boundary-index c.args.high.now.counter c.loop-boundary.least (omega arith) c.loop-boundary.invariant
