use Rattle.std.proofs.Common.{sym, subst}
use Rattle.scp_vote.specs.Board.{Seen, KeepsOwn}
use Rattle.scp_vote.specs.declared.claim.StatementKind.TheVariants.{Nomination, Balloting}
use Rattle.scp_vote.proofs.Kept.{board_keeps}
use Rattle.scp_vote.proofs.board.Board.of.Goals as goal

pub returns-in-Nomination-clause-own : goal.returns-in-Nomination-clause-own
returns-in-Nomination-clause-own c = subst (λ (s : Seen). KeepsOwn s) (sym c.side.ensures) (board_keeps c.args.self.now Nomination)

pub returns-in-Balloting-clause-own : goal.returns-in-Balloting-clause-own
returns-in-Balloting-clause-own c = subst (λ (s : Seen). KeepsOwn s) (sym c.side-in-Balloting.ensures) (board_keeps c.args.self.now Balloting)
