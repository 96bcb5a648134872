-- What a node with a nearly full journal doesn't hear (this project's profile).
use Rattle.std.specs.Prelude.{Bool, true, false, ◌&&◌, length}
use Rattle.scp_again.specs.scp_core.specs.declared.event.Event.{Event}
use Rattle.scp_again.specs.scp_core.specs.declared.event.Event.TheVariants.{Open, Send}
use Rattle.scp_again.specs.scp_core.specs.Kv.{NodeView}
use Rattle.scp_live_lines.specs.State.{is_nearly_full}

-- A peer opens a connection, or sends something.
abbrev pub is_of_peer : Event → Bool
is_of_peer (Open link) = true
is_of_peer (Send link bytes) = true
is_of_peer event = false

-- The event is a peer's, and the journal is nearly full. All else happens as before: the node acts by itself, and connections end.
abbrev pub is_turned_away : Event → NodeView → Bool
is_turned_away event v = is_of_peer event && is_nearly_full (length v.ledger.journal)
