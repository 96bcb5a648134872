use Rattle.std.specs.Map.{keys_of}
use Rattle.scp_ballot_rules.specs.scp_vote.specs.declared.claim.StatementKind.TheVariants.{Balloting}
use Rattle.scp_ballot_rules.specs.scp_vote.specs.Seen.{seen}
use Rattle.scp_stand_needs.specs.Needs.{IsBallotDue}
use Rattle.scp_stand_needs.proofs.Listing.{AreSoFar}
use Rattle.scp_stand_needs.proofs.balloted.preparing.Given as goal

-- of the values so far
abbrev pub invariant-loop-value : goal.invariant-loop-value
invariant-loop-value l = AreSoFar l.board l.members (IsBallotDue (seen Balloting l.board)) (keys_of l.value-iterator) l.needs.items
