-- What is parked, as messages.
use Rattle.std.specs.Prelude.{◌≡◌, Bool, List, map, filter}
use Rattle.std.specs.List.{AllByRecursion, AllZip}
use Rattle.std.specs.Cmp.Lexicographic.{slice_cmp}
use Rattle.std.specs.Ordering.{nat_cmp, ordering_then}
use Rattle.std.specs.declared.cmp.Ordering.{Ordering}
use Rattle.scp_wire.specs.scp_types.specs.declared.names.ConnId.{ConnId}
use Rattle.scp_wire.specs.scp_types.specs.declared.names.NodeId.{NodeId}
use Rattle.scp_wire.specs.declared.carried.Carried.{Carried}
use Rattle.scp_wire.specs.declared.link.Inbound.{Inbound}
use Rattle.scp_wire.specs.Connections.{same_conn}
use Rattle.scp_wire.specs.Marks.{Mark, number}
use Rattle.scp_pending.specs.declared.parked.Parked.{Parked}
use Rattle.scp_pending.specs.declared.parked.Parked.TheVariants.{Waits, Free, Lost}
use Rattle.scp_pending.specs.declared.ready.Ready.{Ready}
use Rattle.scp_pending.specs.Queues.{parked_of}
use Rattle.scp_pending.specs.Rules.{PendingView, Settled}
use Rattle.scp_pending.specs.Line.{marks_parked}
use Rattle.scp_pending.specs.Causes.{Place}
use Rattle.scp_pending.specs.Pends.{Pends, start_of}

-- this is the message that is parked
abbrev pub IsParkedAs : Parked → Carried → Type 0
IsParkedAs (Waits x) y = y ≡ x
IsParkedAs (Free delivery) y = (y.conn ≡ delivery.conn) × (y.seq ≡ delivery.seq) × (y.message ≡ delivery.message)
IsParkedAs (Lost x cause) y = y ≡ x

-- the message belongs to the connection
abbrev pub is_on : ConnId → Carried → Bool
is_on c x = same_conn x.conn c

-- the messages of the connection
abbrev pub messages_on : ConnId → List Carried → List Carried
messages_on c messages = filter (is_on c) messages

-- for each connection, these messages are what is parked of it, in order
abbrev pub AreParked : PendingView → List Carried → Type 0
AreParked v messages = (c : ConnId) → AllZip IsParkedAs (parked_of c v.settled.queues) (messages_on c messages)

-- messages are compared by their senders, then by their lives, then by their numbers
abbrev pub message_cmp : Carried → Carried → Ordering
message_cmp x y = ordering_then (slice_cmp nat_cmp x.conn.from.0 y.conn.from.0) (ordering_then (nat_cmp x.conn.life y.conn.life) (nat_cmp x.seq.0 y.seq.0))

-- a message by its number
abbrev pub message_mark : Carried → Mark
message_mark x = number x.seq.0

-- the marks of the connection's messages
abbrev pub marks_of_messages : ConnId → List Carried → List Mark
marks_of_messages c messages = map message_mark (messages_on c messages)

-- Each message came live on its connection, with its number and its content. For each connection they have the numbers
-- of its queue, in order.
pub record StandFor (start : Settled) (taken : List Inbound) (v : PendingView) (messages : List Carried) : Type 0 where
  pub came : AllByRecursion (Place start taken) messages
  pub numbers : (c : ConnId) → marks_of_messages c messages ≡ marks_parked c v.settled.queues

-- the parked messages came
abbrev pub ParkedStandFor : Type 0
ParkedStandFor = (me : NodeId) (peers : List NodeId) (taken : List Inbound) (given : List Ready) (v : PendingView) (messages : List Carried) → Pends me peers taken given v → AreParked v messages → StandFor (start_of me peers v) taken v messages
