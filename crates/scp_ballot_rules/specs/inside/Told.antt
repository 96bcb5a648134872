-- The ballot part of a board.
-- No public clause reaches this definition: nothing here need be believed.
use Rattle.scp_vote.specs.declared.claim.Claim.{Claim}
use Rattle.scp_vote.specs.Board.{Seen, Accepted, Confirmed}
use Rattle.scp_ballot_rules.specs.declared.told.Stage.{Stage}
use Rattle.scp_ballot_rules.specs.declared.told.Stage.TheVariants.{Acceptance, Confirmation}

-- the claim has reached this stage of federated voting
abbrev pub Reached : Stage → Seen → Claim → Type 0
Reached Acceptance b c = Accepted b c
Reached Confirmation b c = Confirmed b c
