-- The newest fresh statement of each other node and kind, with its quorum set.
use Rattle.std.specs.Prelude.{◌≡◌, ◌≢◌, Option, Some, cond}
use Rattle.std.specs.BTreeMap as node_map
use Rattle.std.specs.BTreeMap.{is_at}
use Rattle.scp_nominate.specs.scp_types.specs.declared.names.NodeId.{NodeId}
use Rattle.scp_nominate.specs.scp_quorum.specs.NodeSet.{node_cmp}
use Rattle.scp_nominate.specs.scp_vote.specs.Board.{kind_of_pledges}
use Rattle.scp_nominate.specs.scp_vote.specs.declared.claim.StatementKind.{StatementKind}
use Rattle.scp_nominate.specs.scp_vote.specs.declared.claim.StatementKind.TheVariants.{Nomination, Balloting}
use Rattle.scp_slot.specs.declared.newest.Heard.{Heard}
use Rattle.scp_slot.specs.declared.newest.Newest.{Newest}

-- the newest statement of the kind that was heard from a node
abbrev pub newest_of : Newest → StatementKind → NodeId → Option Heard
newest_of n Nomination v = node_map.get node_cmp n.nominations v
newest_of n Balloting v = node_map.get node_cmp n.ballots v

-- the statement is now the newest of its node and kind, and all others stay
pub record Puts (old new : StatementKind → NodeId → Option Heard) (h : Heard) : Type 0 where
  pub its_kind : (v : NodeId) → new (kind_of_pledges h.statement.pledges) v ≡ cond (is_at (node_cmp h.statement.node) v) (Some h) (old (kind_of_pledges h.statement.pledges) v)
  pub other_kind : (kind : StatementKind) → kind ≢ kind_of_pledges h.statement.pledges → (v : NodeId) → new kind v ≡ old kind v
