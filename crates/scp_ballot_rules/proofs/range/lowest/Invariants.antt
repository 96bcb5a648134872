use Rattle.scp_vote.specs.declared.claim.Claim.TheVariants.{Committed}
use Rattle.scp_ballot_rules.specs.Told.{ballots_on}
use Rattle.scp_ballot_rules.specs.inside.Told.{Reached}
use Rattle.scp_ballot_rules.proofs.Firsts.{IsLeastBefore}
use Rattle.scp_ballot_rules.proofs.range.lowest.Given as goal

abbrev pub invariant-loop-boundary : goal.invariant-loop-boundary
invariant-loop-boundary l = IsLeastBefore (λ n. Reached l.stage (ballots_on l.board) (Committed n l.high.counter l.high.value)) l.high.value l.boundaries l.boundary-index l.high.counter l.least
