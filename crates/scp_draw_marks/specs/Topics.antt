-- The topic of a fact: its kind, and its slot if it has one (this project's profile).
use Rattle.std.specs.Prelude.{ℕ, ◌&&◌, Bool, true, false, Option, Some, None, length, nat_eq, slice_get}
use Rattle.scp_words.specs.scp_types.specs.declared.names.ConnId.{ConnId}
use Rattle.scp_words.specs.scp_envelope.specs.declared.statement.Envelope.{Envelope as Signed}
use Rattle.scp_words.specs.scp_envelope.specs.declared.statement.Pledges.{Pledges}
use Rattle.scp_words.specs.scp_envelope.specs.declared.statement.Pledges.TheVariants as pledges
use Rattle.scp_words.specs.scp_wire.specs.Connections.{same_conn}
use Rattle.scp_words.specs.scp_wire.specs.declared.link.Command.{Command}
use Rattle.scp_words.specs.scp_wire.specs.declared.link.Command.TheVariants as command
use Rattle.scp_words.specs.scp_wire.specs.declared.message.Message.{Message}
use Rattle.scp_words.specs.scp_wire.specs.declared.message.Message.TheVariants.{Envelope, GetSet, Set, NoSet, GetRecord, Record, Records as Batch}
use Rattle.scp_words.specs.scp_ledger.specs.declared.journal.Decision.{Decision}
use Rattle.scp_words.specs.scp_ledger.specs.declared.journal.Fate.{Fate}
use Rattle.scp_words.specs.scp_ledger.specs.declared.journal.Fate.TheVariants as fate
use Rattle.scp_facts.specs.scp_core.specs.Kv.{NodeView}
use Rattle.scp_facts.specs.declared.fact.Fact.{Fact}
use Rattle.scp_facts.specs.declared.fact.Fact.TheVariants.{Parked, Entered}
use Rattle.scp_draw_marks.specs.declared.topic.Kind.{Kind}
use Rattle.scp_draw_marks.specs.declared.topic.Kind.TheVariants as kind
use Rattle.scp_draw_marks.specs.declared.topic.Topic.{Topic}
use Rattle.scp_draw_marks.specs.declared.topic.Letter.{Letter}

-- ---- kinds and slots

-- Both are of the same slot, or both are of none.
abbrev pub same_slot : Option ℕ → Option ℕ → Bool
same_slot None None = true
same_slot None (Some b) = false
same_slot (Some a) None = false
same_slot (Some a) (Some b) = nat_eq a b

-- The topic of this kind and this slot.
abbrev pub of_slot : Kind → ℕ → Topic
of_slot kind slot = record { kind = kind; slot = Some slot }

-- The topic of this kind and of no slot.
abbrev pub of_none : Kind → Topic
of_none kind = record { kind = kind; slot = None }

-- ---- messages

-- The kind of a statement.
abbrev pub kind_of_pledges : Pledges → Kind
kind_of_pledges (pledges.Prepare p) = kind.Prepare
kind_of_pledges (pledges.Confirm p) = kind.Confirm
kind_of_pledges (pledges.Externalize p) = kind.Externalize
kind_of_pledges (pledges.Nominate p) = kind.Nominate

-- The topic of a statement: its kind and its slot.
abbrev pub topic_of_envelope : Signed → Topic
topic_of_envelope e = of_slot (kind_of_pledges e.statement.pledges) e.statement.slot.0

-- The topic of a message. A batch of records has the slot of its first record.
abbrev pub topic_of_message : Message → Topic
topic_of_message (Envelope e) = topic_of_envelope e.value
topic_of_message (GetSet hash) = of_none kind.Sets
topic_of_message (Set set) = of_none kind.Sets
topic_of_message (NoSet hash) = of_none kind.Sets
topic_of_message (GetRecord slot) = of_slot kind.Records slot.0
topic_of_message (Record slot value) = of_slot kind.Records slot.0
topic_of_message (Batch first values) = of_slot kind.Records first.0

-- The topic of what was read from bytes. Bytes that encode no message belong to their link.
abbrev pub topic_of_reading : Option Message → Topic
topic_of_reading None = of_none kind.Links
topic_of_reading (Some message) = topic_of_message message

-- How many numbers a message takes on its connection. A batch takes one for each of its records.
abbrev pub numbers_of_message : Message → ℕ
numbers_of_message (Envelope e) = 1
numbers_of_message (GetSet hash) = 0
numbers_of_message (Set set) = 0
numbers_of_message (NoSet hash) = 0
numbers_of_message (GetRecord slot) = 1
numbers_of_message (Record slot value) = 1
numbers_of_message (Batch first values) = length values

-- How many numbers the bytes take. Bytes that encode no message take none.
abbrev pub numbers_of_reading : Option Message → ℕ
numbers_of_reading None = 0
numbers_of_reading (Some message) = numbers_of_message message

-- ---- letters: the numbered messages that came, in order

-- The letter has this number. Without a number, any letter does.
abbrev pub has_number : Option ℕ → Letter → Bool
has_number None letter = true
has_number (Some seq) letter = nat_eq letter.seq seq

-- The letter is of this connection and has this number. Without a number, any letter of the connection is meant.
abbrev pub is_of : ConnId → Option ℕ → Letter → Bool
is_of conn seq letter = same_conn letter.conn conn && has_number seq letter

-- ---- commands and the journal

-- The topic of a command.
abbrev pub topic_of_command : Command → Topic
topic_of_command command.Tick = of_none kind.Commands
topic_of_command (command.Propose slot value) = of_slot kind.Commands slot.0
topic_of_command (command.Round slot) = of_slot kind.Commands slot.0
topic_of_command (command.Timer slot) = of_slot kind.Commands slot.0
topic_of_command (command.Ask link slot) = of_slot kind.Commands slot.0

-- The topic of a letter is that of its message. Without a letter, the topic is the link.
abbrev pub topic_of_letter : Option Letter → Topic
topic_of_letter None = of_none kind.Links
topic_of_letter (Some letter) = letter.topic

-- The topic of a journal entry. A dropped message has the topic of its letter, which is given.
abbrev pub topic_of_entry : Option Letter → Option Fate → Topic
topic_of_entry letter None = of_none kind.Links
topic_of_entry letter (Some (fate.Taken conn seq message set verdict)) = topic_of_message message
topic_of_entry letter (Some (fate.Dropped conn seq cause)) = topic_of_letter letter
topic_of_entry letter (Some (fate.Closed conn cause)) = of_none kind.Links

-- The topic of a decision, if there is one.
abbrev pub topic_of_decision : Option Decision → Topic
topic_of_decision None = of_none kind.Decisions
topic_of_decision (Some d) = of_slot kind.Decisions d.slot.0

-- ---- facts

-- The connection and number of the message of a journal entry, if it has one.
abbrev pub came_by_entry : Option Fate → Option (ConnId × ℕ)
came_by_entry None = None
came_by_entry (Some (fate.Taken conn seq message set verdict)) = Some (conn, seq.0)
came_by_entry (Some (fate.Dropped conn seq cause)) = Some (conn, seq.0)
came_by_entry (Some (fate.Closed conn cause)) = None

-- The connection and number of the message of a fact, at a node as it is now.
abbrev pub came_by : NodeView → Fact → Option (ConnId × ℕ)
came_by v (Parked conn seq why message) = Some (conn, seq.0)
came_by v (Entered entry standing) = came_by_entry (slice_get v.ledger.journal entry)
came_by v fact = None
