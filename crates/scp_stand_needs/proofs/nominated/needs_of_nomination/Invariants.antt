use Rattle.scp_ballot_rules.specs.scp_vote.specs.declared.claim.StatementKind.TheVariants.{Nomination}
use Rattle.scp_ballot_rules.specs.scp_vote.specs.Seen.{seen}
use Rattle.scp_stand_needs.specs.Needs.{IsNominationDue}
use Rattle.scp_stand_needs.proofs.Listing.{AreSoFar}
use Rattle.scp_stand_needs.proofs.nominated.needs_of_nomination.Given as goal

-- of the values so far
abbrev pub invariant-loop-value : goal.invariant-loop-value
invariant-loop-value l = AreSoFar l.board l.members (IsNominationDue (seen Nomination l.board)) l.value-iterator l.needs.items
