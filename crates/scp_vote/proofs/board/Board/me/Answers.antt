use Rattle.scp_vote.proofs.Kept.{board_keeps}
use Rattle.scp_vote.proofs.board.Board.me.Goals as goal

pub returns-clause-own : goal.returns-clause-own
returns-clause-own c = board_keeps c.args.self.now
