-- The sets that a node wants, and the messages that it holds until they come (this project's profile).
use Rattle.std.specs.Prelude.{ℕ, false, List, ◌++◌, [], Option, Some, None, codes, flat_map, slice_index_or}
use Rattle.std.specs.Fmt.{decimal}
use Rattle.scp_turn.specs.scp_types.specs.declared.names.Hash.{Hash}
use Rattle.scp_turn.specs.scp_types.specs.declared.names.NodeId.{NodeId}
use Rattle.scp_turn.specs.scp_types.specs.declared.names.Seq.{Seq}
use Rattle.scp_turn.specs.scp_fetch.specs.declared.want.Want.{Want}
use Rattle.scp_turn.specs.scp_pending.specs.Queues.{parked_of, first_waiting}
use Rattle.scp_turn.specs.scp_pending.specs.Line.{count_held}
use Rattle.scp_turn.specs.scp_core.specs.History.{peer_at}
use Rattle.scp_turn.specs.scp_core.specs.Node.{lives_at}
use Rattle.scp_turn.specs.scp_core.specs.Kv.{NodeView}
use Rattle.scp_turn.specs.Turn.{links_of}
use Rattle.scp_stand_slot.specs.scp_script.specs.Nodes.{numbers}
use Rattle.scp_stand_slot.specs.declared.names.Names.{Names}
use Rattle.scp_stand_slot.specs.Names.{node_name, name_of, nodes_text}
use Rattle.scp_stand_node.specs.Links.{peers_with, conn_on}

-- The nodes that were asked for a wanted set.
abbrev pub asked_for : NodeView → Want → List NodeId
asked_for v want = peers_with v.config (λ link. slice_index_or want.asked link false) (links_of v)

-- The line of a wanted set, for which these nodes were asked.
abbrev pub asked_line : Names → NodeId → Want → List NodeId → List ℕ
asked_line names me want nodes = node_name names me ++ codes " wants " ++ name_of names want.hash ++ codes " misses " ++ decimal want.misses ++ codes " asked " ++ nodes_text names nodes ++ codes "\n"

-- The line of a wanted set.
abbrev pub want_line : Names → NodeView → Want → List ℕ
want_line names v want = asked_line names v.config.me want (asked_for v want)

-- The lines of all wanted sets, in the order in which they were first wanted.
abbrev pub wants_text : Names → NodeView → List ℕ
wants_text names v = flat_map (want_line names v) v.pending.settled.wanted

-- The line of a connection with parked messages: how many messages are held, and what the first waiting one waits for.
abbrev pub held_text : Names → NodeId → NodeId → ℕ → ℕ → Option (Seq × Hash) → List ℕ
held_text names me from life count None = []
held_text names me from life count (Some first) = node_name names me ++ codes " holds " ++ node_name names from ++ codes " " ++ decimal life ++ codes " " ++ decimal count ++ codes " first " ++ decimal first.0.0 ++ codes " waits " ++ name_of names first.1 ++ codes "\n"

-- The line of the connection of this life on a link.
abbrev pub life_text : Names → NodeView → ℕ → ℕ → List ℕ
life_text names v link life = held_text names v.config.me (peer_at v.config link) life (count_held (conn_on v link life) v.pending) (first_waiting (parked_of (conn_on v link life) v.pending.settled.queues))

-- The lines of all connections of a link.
abbrev pub held_on : Names → NodeView → ℕ → List ℕ
held_on names v link = flat_map (life_text names v link) (numbers (lives_at v link))
