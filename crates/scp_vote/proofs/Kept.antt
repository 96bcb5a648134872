-- What is seen of both kinds on a board.
use Rattle.scp_vote.specs.declared.board.Board.{Board}
use Rattle.scp_vote.specs.declared.claim.StatementKind.{StatementKind}
use Rattle.scp_vote.specs.declared.claim.StatementKind.TheVariants.{Nomination, Balloting}
use Rattle.std.proofs.Common.{◌≡◌, subst}
use Rattle.scp_quorum.specs.scp_types.specs.declared.names.NodeId.{NodeId}
use Rattle.scp_quorum.specs.QuorumTree.{QuorumTree}
use Rattle.scp_envelope.specs.declared.statement.Pledges.{Pledges}
use Rattle.scp_vote.specs.Board.{KeepsOwn, PutsCounted}
use Rattle.scp_vote.specs.Seen.{seen}
use Rattle.scp_vote.proofs.Putting.{keeps_own}

-- of this node's own statements the local set is counted
pub board_keeps : (b : Board) (kind : StatementKind) → KeepsOwn (seen kind b)
board_keeps b Nomination = keeps_own b.me b.local.value b.nominations.entries b.own_nomination
board_keeps b Balloting = keeps_own b.me b.local.value b.ballots.entries b.own_ballot

-- of both kinds
pub by_kind : (P : StatementKind → Type 0) → P Nomination → P Balloting → (kind : StatementKind) → P kind
by_kind P n b Nomination = n
by_kind P n b Balloting = b

-- what is put among the statements of a kind
pub kind_puts : (kind k : StatementKind) (old new : Board) (v : NodeId) (p : Pledges) (d : QuorumTree) → k ≡ kind → PutsCounted (seen k old) (seen k new) v p d → PutsCounted (seen kind old) (seen kind new) v p d
kind_puts kind k old new v p d e h = subst (λ x. PutsCounted (seen x old) (seen x new) v p d) e h
