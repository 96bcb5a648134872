-- What the things that are ready or parked say of one connection.
use Rattle.std.specs.Prelude.{ℕ, ◌+◌, ◌≡◌, Bool, true, false, List, [], ◌++◌, map, flat_map, Some, slice_get, count_by, length}
use Rattle.std.specs.List.{AllByRecursion}
use Rattle.scp_wire.specs.scp_types.specs.declared.names.ConnId.{ConnId}
use Rattle.scp_wire.specs.declared.message.Message.{Message}
use Rattle.scp_wire.specs.declared.link.Inbound.{Inbound}
use Rattle.scp_wire.specs.Connections.{same_conn}
use Rattle.scp_wire.specs.Marks.{Mark, number, ended, one_if, marks_in, messages_in, IsWhole}
use Rattle.scp_wire.specs.Lanes.{in_lane, EndsLast}
use Rattle.scp_pending.specs.declared.parked.Parked.{Parked}
use Rattle.scp_pending.specs.declared.ready.Ready.{Ready}
use Rattle.scp_pending.specs.declared.ready.Ready.TheVariants.{Deliver, Dropped, Closed, Local}
use Rattle.scp_pending.specs.Queues.{QueueView, parked_of, seq_of}
use Rattle.scp_pending.specs.Rules.{PendingView}

-- the mark of one ready thing, if it belongs to the connection
abbrev pub ready_mark : ConnId → Ready → List Mark
ready_mark c (Deliver delivery) = one_if (same_conn delivery.conn c) (number delivery.seq.0)
ready_mark c (Dropped conn seq cause) = one_if (same_conn conn c) (number seq.0)
ready_mark c (Closed conn cause) = one_if (same_conn conn c) (ended cause)
ready_mark c (Local command) = []

-- the marks of what is ready, or was given
abbrev pub marks_of : ConnId → List Ready → List Mark
marks_of c readies = flat_map (ready_mark c) readies

-- the mark of one parked message
abbrev pub parked_mark : Parked → Mark
parked_mark p = number (seq_of p).0

-- the marks of what is parked of the connection
abbrev pub marks_parked : ConnId → List QueueView → List Mark
marks_parked c queues = map parked_mark (parked_of c queues)

-- what is held of a connection: what is ready, and then what is parked; in each lane it will be given in this order
abbrev pub held : ConnId → PendingView → List Mark
held c v = marks_of c v.leaving ++ marks_parked c v.settled.queues

-- whether it is a message of the connection
abbrev pub is_message_of : ConnId → Ready → Bool
is_message_of c (Deliver delivery) = same_conn delivery.conn c
is_message_of c (Dropped conn seq cause) = same_conn conn c
is_message_of c (Closed conn cause) = false
is_message_of c (Local command) = false

-- how many messages of a connection are held: ready, or parked
abbrev pub count_held : ConnId → PendingView → ℕ
count_held c v = count_by (is_message_of c) v.leaving + length (parked_of c v.settled.queues)

-- if this is a delivered message of the connection, it is the one of its number
abbrev pub HasItsMessage : ConnId → List Message → Ready → Type 0
HasItsMessage c messages (Deliver delivery) = same_conn delivery.conn c ≡ true → slice_get messages delivery.seq.0 ≡ Some delivery.message
HasItsMessage c messages (Dropped conn seq cause) = Unit {0}
HasItsMessage c messages (Closed conn cause) = Unit {0}
HasItsMessage c messages (Local command) = Unit {0}

-- each delivered message of the connection is the one of its number
abbrev pub HaveMessages : ConnId → List Message → List Ready → Type 0
HaveMessages c messages readies = AllByRecursion (HasItsMessage c messages) readies

-- In each lane of a connection, what was given, and then what is held, is what came: whole up to the first end, or a front
-- of it if that end is ParkedFull. Nothing comes after an end, and each message that was given is the one of its number.
pub record Accounts (c : ConnId) (slots : ℕ → ℕ) (taken : List Inbound) (given : List Ready) (held' : List Mark) : Type 0 where
  pub whole : (s : ℕ) → IsWhole (in_lane slots s (marks_in c taken)) (in_lane slots s (marks_of c given ++ held'))
  pub ends : (s : ℕ) → EndsLast (in_lane slots s (marks_of c given ++ held'))
  pub messages : HaveMessages c (messages_in c taken) given
