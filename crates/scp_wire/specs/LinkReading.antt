-- What a link's items are read as (this project's profile): carried messages, numbered 0, 1, 2, .. on each connection, a batch as its
-- records, side messages, and the connection's end. After a connection's end everything is discarded up to the next Opened.
use Rattle.std.specs.Prelude.{ℕ, ◌+◌, ◌≡◌, refl, Bool, true, false, ◌&&◌, List, [], ◌∷◌, ◌++◌, Option, Some, None, nat_eq, if◌then◌else◌, fold, drop}
use Rattle.scp_quorum.specs.scp_types.specs.declared.limits.TheConstants.{CARRIED_LIMIT}
use Rattle.scp_quorum.specs.scp_types.specs.declared.names.ConnId.{ConnId}
use Rattle.scp_wire.specs.declared.message.Message.{Message}
use Rattle.scp_wire.specs.declared.message.Message.TheVariants.{Envelope, GetSet, Set, NoSet, GetRecord, Record, Records}
use Rattle.scp_wire.specs.declared.side.SideMessage.TheVariants as side
use Rattle.scp_wire.specs.declared.link.LinkItem.{LinkItem}
use Rattle.scp_wire.specs.declared.link.LinkItem.TheVariants.{Opened, Bytes, Closed}
use Rattle.scp_wire.specs.declared.link.Inbound.{Inbound}
use Rattle.scp_wire.specs.declared.link.Inbound.TheVariants as inbound
use Rattle.scp_wire.specs.declared.link.Cause.TheVariants.{Malformed, Link, Spent}
use Rattle.scp_wire.specs.Carried.{is_carried}
use Rattle.scp_wire.specs.Reading.{reading_of}

-- where a reader is on its link
pub record ReaderView : Type 0 where
  pub ended : Bool  -- no connection is open, or what still comes of it is discarded
  pub next : ℕ  -- the number of the next carried message that isn't read yet

-- a reader: where it is, and what it read of a batch and has still to give
pub record ReaderState : Type 0 where
  pub at : ReaderView
  pub rest : List Inbound

-- where a reader is on a link that was never open
abbrev pub unread : ReaderView
unread = record { ended = true; next = 0 }

-- a carried message with its number, or a side message
abbrev pub numbered : ConnId → ℕ → Message → Inbound
numbered conn n (Envelope envelope) = inbound.Carried (record { conn = conn; seq = record { 0 = n }; message = Envelope envelope; carried = refl })
numbered conn n (GetSet hash) = inbound.Side conn (side.GetSet hash)
numbered conn n (Set set) = inbound.Side conn (side.Set set)
numbered conn n (NoSet hash) = inbound.Side conn (side.NoSet hash)
numbered conn n (GetRecord slot) = inbound.Carried (record { conn = conn; seq = record { 0 = n }; message = GetRecord slot; carried = refl })
numbered conn n (Record slot value) = inbound.Carried (record { conn = conn; seq = record { 0 = n }; message = Record slot value; carried = refl })
numbered conn n (Records first values) = inbound.Closed conn Malformed  -- never: a batch is read as its records

-- the records of a batch: the one at place i names slot first + i
abbrev pub records_from : ℕ → List (List ℕ) → List Message
records_from slot [] = []
records_from slot (value ∷ values) = Record (record { 0 = slot }) value ∷ records_from (slot + 1) values

-- the messages as which one message is read: a batch as its records, any other as itself
abbrev pub singles : Message → List Message
singles (Envelope envelope) = Envelope envelope ∷ []
singles (GetSet hash) = GetSet hash ∷ []
singles (Set set) = Set set ∷ []
singles (NoSet hash) = NoSet hash ∷ []
singles (GetRecord slot) = GetRecord slot ∷ []
singles (Record slot value) = Record slot value ∷ []
singles (Records first values) = records_from first.0 values

-- 1,000,000 messages were carried, and this carried message would be one more
abbrev pub is_spent : ℕ → Message → Bool
is_spent n message = is_carried message && nat_eq n CARRIED_LIMIT

-- the number after a message
abbrev pub next_of : ℕ → Message → ℕ
next_of n message = if is_carried message then n + 1 else n

-- what one message brings
abbrev pub brought_one : ConnId → ℕ → Message → Inbound
brought_one conn n message = if is_spent n message then inbound.Closed conn Spent else numbered conn n message

-- the reader after one message
abbrev pub after_one : ReaderView → Message → ReaderView
after_one r message = if is_spent r.next message then record r { ended = true } else record r { next = next_of r.next message }

-- what messages bring in turn; one that is spent ends the connection, and those after it are dropped
abbrev pub brought_each : ConnId → ℕ → List Message → List Inbound
brought_each conn n [] = []
brought_each conn n (m ∷ ms) = brought_one conn n m ∷ (if is_spent n m then [] else brought_each conn (next_of n m) ms)

-- the reader after messages in turn
abbrev pub after_each : ReaderView → List Message → ReaderView
after_each r [] = r
after_each r (m ∷ ms) = if is_spent r.next m then after_one r m else after_each (after_one r m) ms

-- what bytes with this reading bring
abbrev pub brought : ConnId → ℕ → Option Message → List Inbound
brought conn n None = inbound.Closed conn Malformed ∷ []
brought conn n (Some message) = brought_each conn n (singles message)

-- the reader after bytes with this reading
abbrev pub after_read : ReaderView → Option Message → ReaderView
after_read r None = record r { ended = true }
after_read r (Some message) = after_each r (singles message)

-- what an item gives; nothing if it is discarded
abbrev pub reading : ReaderView → LinkItem → List Inbound
reading r (Opened conn) = inbound.Opened conn ∷ []
reading r (Bytes conn bytes) = if r.ended then [] else brought conn r.next (reading_of bytes)
reading r (Closed conn) = if r.ended then [] else inbound.Closed conn Link ∷ []

-- the first of what an item gives
abbrev pub first_of : List Inbound → Option Inbound
first_of [] = None
first_of (x ∷ xs) = Some x

-- the reader after an item
abbrev pub after : ReaderView → LinkItem → ReaderView
after r (Opened conn) = record r { ended = false; next = 0 }
after r (Bytes conn bytes) = if r.ended then r else after_read r (reading_of bytes)
after r (Closed conn) = if r.ended then r else record r { ended = true }

-- what a list of items gives
abbrev pub readings : ReaderView → List LinkItem → List Inbound
readings r [] = []
readings r (item ∷ items) = reading r item ++ readings (after r item) items

-- the reader after a list of items
abbrev pub after_all : ReaderView → List LinkItem → ReaderView
after_all r items = fold after r items

-- the reader after it took an item and gave the first thing of it
abbrev pub taken_by : ReaderState → LinkItem → ReaderState
taken_by r item = record { at = after r.at item; rest = drop 1 (reading r.at item) }

-- a reader that took these items of its link from the first on, and gave this: what it has still to give is the rest
pub record HasRead (items : List LinkItem) (given : List Inbound) (r : ReaderState) : Type 0 where
  pub given_is : given ++ r.rest ≡ readings unread items
  pub stands : r.at ≡ after_all unread items
