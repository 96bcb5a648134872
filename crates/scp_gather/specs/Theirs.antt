-- What is read of a link over which a node sent only what it may send.
use Rattle.std.specs.Prelude.{◌≢◌, ℕ, List, [], ◌∷◌, ◌++◌, All, flat_map}
use Rattle.scp_workers.specs.scp_wire.specs.declared.link.Cause.TheVariants.{Malformed}
use Rattle.scp_workers.specs.scp_wire.specs.declared.link.Inbound.{Inbound}
use Rattle.scp_workers.specs.scp_wire.specs.declared.link.Inbound.TheVariants as inbound
use Rattle.scp_workers.specs.scp_wire.specs.declared.link.LinkItem.{LinkItem}
use Rattle.scp_workers.specs.scp_wire.specs.declared.message.Message.{Message}
use Rattle.scp_workers.specs.scp_wire.specs.declared.message.Message.TheVariants as message
use Rattle.scp_workers.specs.scp_wire.specs.declared.side.SideMessage.{SideMessage}
use Rattle.scp_workers.specs.scp_wire.specs.declared.side.SideMessage.TheVariants as side
use Rattle.scp_workers.specs.scp_wire.specs.LinkReading.{unread, readings}
use Rattle.scp_workers.specs.scp_outbox.specs.Sent.{AreNewer}
use Rattle.scp_workers.specs.scp_theorem.specs.Grounds.{Grounds, MaySend, IsSentOut}
use Rattle.scp_gather.specs.Sent.{bytes_among}

-- a message without a number, as the link message that it is
abbrev pub as_message : SideMessage → Message
as_message (side.GetSet hash) = message.GetSet hash
as_message (side.Set set) = message.Set set
as_message (side.NoSet hash) = message.NoSet hash

-- the message that came, if one did
abbrev pub message_by : Inbound → List Message
message_by (inbound.Opened conn) = []
message_by (inbound.Carried x) = x.message ∷ []
message_by (inbound.Side conn message) = as_message message ∷ []
message_by (inbound.Closed conn cause) = []
message_by (inbound.Local command) = []

-- the messages among what came, in order
abbrev pub messages_by : List Inbound → List Message
messages_by came = flat_map message_by came

-- no connection ended here because of bytes that are no message, and no command came
abbrev pub IsWellRead : Inbound → Type 0
IsWellRead (inbound.Opened conn) = Unit {0}
IsWellRead (inbound.Carried x) = Unit {0}
IsWellRead (inbound.Side conn message) = Unit {0}
IsWellRead (inbound.Closed conn cause) = cause ≢ Malformed
IsWellRead (inbound.Local command) = ⊥

-- What came is all from the node with these grounds, over this link. It may send each message that came, each statement is newer than those
-- of its slot and kind that came before it, and no bytes came that are no message.
pub record AreTheirs (g : Grounds) (link : ℕ) (came : List Inbound) : Type 0 where
  pub allowed : All (MaySend g link) (messages_by came)
  pub newer : AreNewer (messages_by came)
  pub well_read : All IsWellRead came

-- what is read of a link's items is its sender's own, if all bytes among the items are what the sender may send
abbrev pub WhatIsReadIsTheirs : Type 0
WhatIsReadIsTheirs = (g : Grounds) (link : ℕ) (items : List LinkItem) → IsSentOut g link (bytes_among items) → AreTheirs g link (readings unread items)

-- the same holds of each beginning of what came
abbrev pub WhatCameFirstIsTheirs : Type 0
WhatCameFirstIsTheirs = (g : Grounds) (link : ℕ) (came more : List Inbound) → AreTheirs g link (came ++ more) → AreTheirs g link came
