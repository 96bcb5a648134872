-- What a drain does to the outboxes; nothing here need be believed.
use Rattle.std.specs.Prelude.{ℕ, ◌≡◌, List, Some, None, nat_lt, slice_get, if◌then◌else◌}
use Rattle.scp_theorem.specs.scp_wire.specs.declared.message.Message.{Message}
use Rattle.scp_theorem.specs.scp_wire.specs.Message.{message_value, SpellsMessage}
use Rattle.scp_theorem.specs.scp_outbox.specs.Outbox.{OutboxView}
use Rattle.scp_theorem.specs.scp_outbox.specs.Handing.{GivesThere}
use Rattle.scp_core.specs.declared.event.Reply.{Reply}
use Rattle.scp_core.specs.declared.event.Reply.TheVariants.{Idle, Sent, NoLink, NoMemory}

-- a message is encoded, unless there is no memory for it
abbrev pub IsSpelt : Message → Reply → Type 0
IsSpelt message (Sent bytes) = SpellsMessage bytes (message_value message)
IsSpelt message NoMemory = Unit {0}
IsSpelt message reply = ⊥

-- why nothing is given
abbrev pub empty_reply : ℕ → ℕ → Reply
empty_reply count link = if nat_lt link count then Idle else NoLink

-- what is next at the link is encoded
abbrev pub Draws : List OutboxView → ℕ → Reply → List OutboxView → Type 0
Draws old link (Sent bytes) new = (message : Message) × GivesThere old link (Some message) new × SpellsMessage bytes (message_value message)
Draws old link NoMemory new = (message : Message) × GivesThere old link (Some message) new
Draws old link Idle new = GivesThere old link None new
Draws old link NoLink new = (slice_get old link ≡ None) × (new ≡ old)
Draws old link reply new = ⊥
