use Rattle.scp_vote.specs.declared.claim.Claim.TheVariants.{Prepared}
use Rattle.scp_ballot_rules.specs.Told.{ballots_on}
use Rattle.scp_ballot_rules.specs.inside.Told.{Reached}
use Rattle.scp_ballot_rules.specs.inside.Finding.{IsWithin}
use Rattle.scp_ballot_rules.proofs.Best.{IsGreatestBefore}
use Rattle.scp_ballot_rules.proofs.finding.greatest.Given as goal

abbrev pub invariant-loop-ballot : goal.invariant-loop-ballot
invariant-loop-ballot l = IsGreatestBefore (λ x. IsWithin l.bound x × Reached l.stage (ballots_on l.board) (Prepared x)) l.list l.ballot-index l.floor l.best
