use Rattle.scp_vote.specs.declared.claim.StatementKind.TheVariants.{Nomination}
use Rattle.scp_nominate.proofs.heard.new_board.Goals as goal

pub returns : goal.returns
returns c = c.new.ensures.empty Nomination
