-- What is kept for verdicts: the newest statement of each node and kind.
use Rattle.std.specs.Prelude.{◌≡◌, ◌≢◌, List, Option, Some, cond}
use Rattle.std.specs.BTreeMap.{is_at}
use Rattle.std.specs.BTreeMap as node_map
use Rattle.scp_ledger.specs.scp_types.specs.declared.names.NodeId.{NodeId}
use Rattle.scp_ledger.specs.scp_quorum.specs.NodeSet.{node_cmp}
use Rattle.scp_ledger.specs.scp_envelope.specs.declared.statement.Statement.{Statement}
use Rattle.scp_ledger.specs.scp_vote.specs.Board.{kind_of_pledges}
use Rattle.scp_ledger.specs.scp_vote.specs.declared.claim.StatementKind.{StatementKind}
use Rattle.scp_ledger.specs.scp_vote.specs.declared.claim.StatementKind.TheVariants.{Nomination, Balloting}
use Rattle.scp_ledger.specs.Journal.{Heard}
use Rattle.scp_judged.specs.Verdicts.{last_statement}
use Rattle.scp_judged.specs.declared.newest.Newest.{Newest}

-- the statement that is kept of a node and a kind
abbrev pub newest_in : Newest → StatementKind → NodeId → Option Statement
newest_in n Nomination v = node_map.get node_cmp n.nominations v
newest_in n Balloting v = node_map.get node_cmp n.ballots v

-- of each node and kind the last statement of those that count is kept
abbrev pub KeepsLast : Newest → List Heard → Type 0
KeepsLast n counting = (kind : StatementKind) (v : NodeId) → newest_in n kind v ≡ last_statement counting kind v

-- the statement is now the newest of its node and kind, and all others stay
pub record Puts (old new : StatementKind → NodeId → Option Statement) (s : Statement) : Type 0 where
  pub its_kind : (v : NodeId) → new (kind_of_pledges s.pledges) v ≡ cond (is_at (node_cmp s.node) v) (Some s) (old (kind_of_pledges s.pledges) v)
  pub other_kind : (kind : StatementKind) → kind ≢ kind_of_pledges s.pledges → (v : NodeId) → new kind v ≡ old kind v

abbrev pub Enters : Newest → Newest → Statement → Type 0
Enters old new s = Puts (newest_in old) (newest_in new) s
