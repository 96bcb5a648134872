use Rattle.std.proofs.Common.{◌<◌}
use Rattle.scp_vote.specs.declared.claim.Claim.TheVariants.{Committed}
use Rattle.scp_ballot_rules.specs.Told.{ballots_on}
use Rattle.scp_ballot_rules.specs.inside.Told.{Reached}
use Rattle.scp_ballot_rules.specs.inside.Finding.{IsWithin}
use Rattle.scp_ballot_rules.proofs.Firsts.{IsFirstBefore}
use Rattle.scp_ballot_rules.proofs.range.highest.Given as goal

abbrev pub invariant-loop-boundary : goal.invariant-loop-boundary
invariant-loop-boundary l = IsFirstBefore (λ x. ((l.floor < x.counter) × IsWithin l.bound x) × Reached l.stage (ballots_on l.board) (Committed x.counter x.counter x.value)) l.boundaries l.boundary-index l.best
