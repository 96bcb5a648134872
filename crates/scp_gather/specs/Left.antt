-- What the threads of a node left.
use Rattle.std.specs.Prelude.{ℕ, List, [], Option, Some, None, slice_get}
use Rattle.scp_workers.specs.scp_wire.specs.declared.link.LinkItem.{LinkItem}
use Rattle.scp_workers.specs.scp_wire.specs.declared.link.Inbound.{Inbound}
use Rattle.scp_workers.specs.scp_ends.specs.Ends.{Sender}
use Rattle.scp_workers.specs.scp_ends.specs.Links.{LinkEnd}
use Rattle.scp_workers.specs.Reading.{ReaderEnd}
use Rattle.scp_workers.specs.Pending.{PendEnd}
use Rattle.scp_workers.specs.Slot.{SlotEnd}
use Rattle.scp_workers.specs.Apply.{ApplyEnd}

-- What its readers ended with, and the sending ends of its links, both in the order of its peers. The sending end of its own commands. What
-- the workers of its stages ended with.
pub record Left (D : Type 0) : Type 0 where
  pub readers : List ReaderEnd
  pub links : List LinkEnd
  pub local : Sender Inbound
  pub pend : PendEnd
  pub slot : SlotEnd D
  pub apply : ApplyEnd

-- what was sent over the link, if there is one
abbrev pub items_of : Option LinkEnd → List LinkItem
items_of None = []
items_of (Some k) = k.tail.sent

-- what was sent over the link of this number
abbrev pub sent_over : List LinkEnd → ℕ → List LinkItem
sent_over links l = items_of (slice_get links l)
