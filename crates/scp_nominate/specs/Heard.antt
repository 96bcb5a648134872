-- The nomination part of a board.
use Rattle.scp_vote.specs.declared.board.Board.{Board}
use Rattle.scp_vote.specs.declared.claim.StatementKind.TheVariants.{Nomination}
use Rattle.scp_vote.specs.Board.{Seen}
use Rattle.scp_vote.specs.Seen.{seen}

-- what a node sees of nomination
abbrev pub heard : Board → Seen
heard b = seen Nomination b
