-- What is kept of the steps of nodes, as seen from outside (this project's profile).
use Rattle.std.specs.Prelude.{ℕ, ◌≡◌, List, [], ◌∷◌, ◌++◌, Option, Some, None, length, nat_lt, slice_get, if◌then◌else◌}
use Rattle.scp_turn.specs.scp_wire.specs.declared.link.Command.{Command as Local}
use Rattle.scp_turn.specs.scp_ledger.specs.declared.took.CommandFate.{CommandFate}
use Rattle.scp_turn.specs.scp_core.specs.declared.event.Event.{Event}
use Rattle.scp_turn.specs.scp_core.specs.declared.event.Event.TheVariants as event
use Rattle.scp_turn.specs.scp_core.specs.declared.event.Reply.{Reply}
use Rattle.scp_turn.specs.scp_core.specs.declared.event.Reply.TheVariants as reply
use Rattle.scp_turn.specs.scp_core.specs.Kv.{NodeView}
use Rattle.scp_turn.specs.Kv.{Noting}
use Rattle.scp_facts.specs.declared.happening.Happening.{Happening}
use Rattle.scp_facts.specs.declared.happening.Happening.TheVariants.{Opened, Came, Closed, Given, Entered, Obeyed, Sent}
use Rattle.scp_facts.specs.declared.happening.Kept.{Kept}
use Rattle.scp_facts.specs.Facts.{command_in}

-- the command that was taken, with what became of it; none if there is no command or no fate
abbrev pub obeyed : Option Local → Option CommandFate → Option Happening
obeyed None fate = None
obeyed (Some command) None = None
obeyed (Some command) (Some fate) = Some (Obeyed command fate)

-- What a slot stage took. If the journal grew, it is what the journal's next entry records; else it is this command, if the stage took one.
abbrev pub taken_by : ℕ → Option Local → NodeView → Option Happening
taken_by entries command after' = if nat_lt entries (length after'.ledger.journal) then Some Entered else obeyed command after'.last_command

-- this happening, if the step was accepted
abbrev pub accepted : Happening → Reply → Option Happening
accepted happening reply.Accepted = Some happening
accepted happening reply = None

-- the bytes that were sent over this link, if any were
abbrev pub drained : ℕ → Reply → Option Happening
drained link (reply.Sent bytes) = Some (Sent link bytes)
drained link reply = None

-- what a slot stage took, if something moved
abbrev pub moved : ℕ → Option Local → NodeView → Reply → Option Happening
moved entries command after' reply.Moved = taken_by entries command after'
moved entries command after' reply = None

-- what happens in a step, from its event, its reply, and the node before and after it
abbrev pub happening_in : Event → Reply → NodeView → NodeView → Option Happening
happening_in (event.Open link) reply before after' = accepted (Opened link) reply
happening_in (event.Send link bytes) reply before after' = accepted (Came link bytes) reply
happening_in (event.Close link) reply before after' = accepted (Closed link) reply
happening_in (event.Local command) reply before after' = accepted (Given command) reply
happening_in (event.Drain link) reply before after' = drained link reply
happening_in event.SlotTake reply before after' = moved (length before.ledger.journal) (command_in (slice_get before.ready 0)) after' reply
happening_in event reply before after' = None

-- what is kept of it, with the number of the node
abbrev pub kept_of : ℕ → Option Happening → List Kept
kept_of number None = []
kept_of number (Some happening) = record { node = number; happening = happening } ∷ []

-- the list of what was kept so far grows by what happens in a step
abbrev pub Keeps : Noting (List Kept)
Keeps old number event reply before after' new = new ≡ old ++ kept_of number (happening_in event reply before after')
