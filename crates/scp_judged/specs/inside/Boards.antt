-- The board of a node that heard what counts.
use Rattle.std.specs.Prelude.{◌≡◌, ◌≢◌, List, cond}
use Rattle.std.specs.Option.{option_map}
use Rattle.std.specs.BTreeMap.{is_at}
use Rattle.scp_ledger.specs.scp_types.specs.declared.names.NodeId.{NodeId}
use Rattle.scp_ledger.specs.scp_quorum.specs.NodeSet.{node_cmp}
use Rattle.scp_ledger.specs.scp_quorum.specs.QuorumTree.{QuorumTree}
use Rattle.scp_ledger.specs.scp_vote.specs.Board.{Seen, PutsCounted, kind_of_pledges}
use Rattle.scp_ledger.specs.scp_vote.specs.declared.claim.StatementKind.{StatementKind}
use Rattle.scp_ledger.specs.Journal.{Heard}
use Rattle.scp_ledger.specs.Certificate.{counted_of}
use Rattle.scp_judged.specs.Verdicts.{heard_by}

-- the set that counts on the board for a node of which this is heard
abbrev pub counted_here : NodeId → QuorumTree → NodeId → Heard → QuorumTree
counted_here me local v h = cond (is_at (node_cmp me) v) local (counted_of v h)

-- the board of this node has the last ballot statement of each node, with the set that counts for it
pub record IsBoardOf (me : NodeId) (local : QuorumTree) (counting : List Heard) (b : Seen) : Type 0 where
  pub own : b.me ≡ me
  pub own_set : b.local ≡ local
  pub statements : (v : NodeId) → b.statement v ≡ option_map (λ h. h.statement.pledges) (heard_by counting v)
  pub sets : (v : NodeId) → b.counted v ≡ option_map (counted_here me local v) (heard_by counting v)

-- a statement that counts is put on its side of the board, and the other side stays
pub record PutsSaid (old new : StatementKind → Seen) (h : Heard) : Type 0 where
  pub puts : PutsCounted (old (kind_of_pledges h.statement.pledges)) (new (kind_of_pledges h.statement.pledges)) h.statement.node h.statement.pledges h.set
  pub other : (kind : StatementKind) → kind ≢ kind_of_pledges h.statement.pledges → new kind ≡ old kind
