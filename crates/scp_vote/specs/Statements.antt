-- What is seen of a table of statements, and which nodes are picked from it.
use Rattle.std.specs.Option.{option_map}
use Rattle.std.specs.BTreeMap as node_map
use Rattle.std.specs.BTreeMap.{BTreeMap}
use Rattle.scp_quorum.specs.scp_types.specs.declared.names.NodeId.{NodeId}
use Rattle.scp_quorum.specs.NodeSet.{node_cmp}
use Rattle.scp_quorum.specs.QuorumTree.{QuorumTree}
use Rattle.scp_vote.specs.declared.statements.Entry.{Entry}
use Rattle.scp_vote.specs.Board.{Seen}

-- what a node with this set sees of a table
abbrev pub seen_in : NodeId → QuorumTree → BTreeMap NodeId Entry → Seen
seen_in me local entries = record {
  me = me;
  local = local;
  statement = λ v. option_map (λ (e : Entry). e.envelope.statement.pledges) (node_map.get node_cmp entries v);
  counted = λ v. option_map (λ (e : Entry). e.counted.value) (node_map.get node_cmp entries v);
}
