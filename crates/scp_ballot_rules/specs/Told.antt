-- The ballot part of a board.
use Rattle.scp_vote.specs.declared.board.Board.{Board}
use Rattle.scp_vote.specs.declared.claim.StatementKind.TheVariants.{Balloting}
use Rattle.scp_vote.specs.Board.{Seen}
use Rattle.scp_vote.specs.Seen.{seen}

-- what a node sees of ballots
abbrev pub ballots_on : Board → Seen
ballots_on b = seen Balloting b
