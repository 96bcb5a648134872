use Rattle.std.proofs.Common.{List, map, take, subst, sym, arith}
use Rattle.scp_ledger.specs.scp_vote.specs.Seen.{seen}
use Rattle.scp_ledger.specs.scp_vote.specs.declared.claim.StatementKind.{StatementKind}
use Rattle.scp_ledger.specs.scp_vote.specs.declared.claim.StatementKind.TheVariants.{Balloting}
use Rattle.scp_ledger.specs.Journal.{Heard}
use Rattle.scp_judged.specs.Verdicts.{heard_of}
use Rattle.scp_judged.specs.inside.Boards.{IsBoardOf}
use Rattle.scp_judged.proofs.Boards.{board_begins, board_more}
use Rattle.scp_judged.proofs.Saying.{taken_more}
use Rattle.scp_judged.proofs.certificates.board_of.Goals as goal

pub loop-said-init : goal.loop-said-init
loop-said-init c = board_begins c.args.node c.args.local.value (seen Balloting c.new-board.result) (c.new-board.ensures.empty Balloting)

pub loop-said-preserved : goal.loop-said-preserved
loop-said-preserved c =
    let xs = c.args.counting.now in
    let i = c.loop-said.said-index in
    let x = c.said-item.result in
    subst (λ (l : List Heard). IsBoardOf c.args.node c.args.local.value l (seen Balloting c.put.new.board)) (sym (taken_more xs i x (omega arith) c.said-item.is))
    (board_more c.args.node c.args.local.value (map heard_of (take i xs)) (heard_of x) (λ (kind : StatementKind). seen kind c.loop-said.board) (λ (kind : StatementKind). seen kind c.put.new.board) c.loop-said.invariant c.in_ok-put.ensures.puts)
