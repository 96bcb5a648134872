-- What is seen of each kind on a board.
use Rattle.std.specs.Prelude.{Option}
use Rattle.std.specs.Option.{option_map}
use Rattle.std.specs.BTreeMap as node_map
use Rattle.scp_quorum.specs.scp_types.specs.declared.names.NodeId.{NodeId}
use Rattle.scp_quorum.specs.NodeSet.{node_cmp}
use Rattle.scp_envelope.specs.declared.statement.Envelope.{Envelope}
use Rattle.scp_vote.specs.declared.statements.Entry.{Entry}
use Rattle.scp_vote.specs.declared.board.Board.{Board}
use Rattle.scp_vote.specs.declared.claim.StatementKind.{StatementKind}
use Rattle.scp_vote.specs.declared.claim.StatementKind.TheVariants.{Nomination, Balloting}
use Rattle.scp_vote.specs.Board.{Seen}
use Rattle.scp_vote.specs.Statements.{seen_in}

-- what this node sees of the statements of one kind
abbrev pub seen : StatementKind → Board → Seen
seen Nomination b = seen_in b.me b.local.value b.nominations.entries
seen Balloting b = seen_in b.me b.local.value b.ballots.entries

-- the envelope that the board keeps of a node
abbrev pub envelope_at : StatementKind → Board → NodeId → Option Envelope
envelope_at Nomination b v = option_map (λ (e : Entry). e.envelope) (node_map.get node_cmp b.nominations.entries v)
envelope_at Balloting b v = option_map (λ (e : Entry). e.envelope) (node_map.get node_cmp b.ballots.entries v)
