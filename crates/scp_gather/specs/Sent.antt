-- What went over a link that a courier carries.
use Rattle.std.specs.Prelude.{ℕ, List, [], ◌∷◌, flat_map}
use Rattle.scp_workers.specs.scp_wire.specs.declared.link.LinkItem.{LinkItem}
use Rattle.scp_workers.specs.scp_wire.specs.declared.link.LinkItem.TheVariants as item
use Rattle.scp_workers.specs.scp_wire.specs.declared.message.Message.{Message}
use Rattle.scp_workers.specs.scp_outbox.specs.declared.mark.Out.{Out}
use Rattle.scp_workers.specs.scp_shared_outbox.specs.Table.{CameOut}
use Rattle.scp_workers.specs.scp_ends.specs.Links.{LinkEnd}
use Rattle.scp_workers.specs.Carrying.{HasCarried}
use Rattle.scp_workers.specs.scp_theorem.specs.Grounds.{Grounds, IsSentOut}
use Rattle.scp_workers.specs.scp_theorem.specs.Laws.{MayGo}

-- the bytes that an item of a link carries
abbrev pub bytes_on : LinkItem → List (List ℕ)
bytes_on (item.Opened conn) = []
bytes_on (item.Bytes conn bytes) = bytes ∷ []
bytes_on (item.Closed conn) = []

-- the bytes among what went over a link, in order
abbrev pub bytes_among : List LinkItem → List (List ℕ)
bytes_among items = flat_map bytes_on items

-- What a courier carried of what came out of an outbox may be sent over the link, if the stages put into that outbox only what may be sent
-- there. Each statement that went over the link is newer than those of its slot and kind before it.
abbrev pub WhatIsCarriedIsSentOut : Type 0
WhatIsCarriedIsSentOut = (g : Grounds) (link : ℕ) (replies said answers : List Message) (gave : List Out) (k : LinkEnd)
    → MayGo g link replies said answers → CameOut replies said answers gave → HasCarried gave k → IsSentOut g link (bytes_among k.tail.sent)
