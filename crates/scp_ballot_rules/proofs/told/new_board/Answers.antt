use Rattle.scp_vote.specs.declared.claim.StatementKind.TheVariants.{Balloting}
use Rattle.scp_ballot_rules.proofs.told.new_board.Goals as goal

pub returns : goal.returns
returns c = c.new.ensures.empty Balloting
