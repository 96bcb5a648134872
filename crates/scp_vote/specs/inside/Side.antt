-- What is seen through a side of the board.
-- No public clause reaches this: nothing here need be believed.
use Rattle.scp_vote.specs.declared.statements.Side.{Side}
use Rattle.scp_vote.specs.Board.{Seen}
use Rattle.scp_vote.specs.Statements.{seen_in}

abbrev pub side : Side → Seen
side s = seen_in s.me s.local.now.value s.table.now.entries
