-- A connection's fates, in order, and each with its cause.
use Rattle.std.specs.Prelude.{ℕ, ◌≡◌, true, List, Some, slice_get, option_map, flat_map}
use Rattle.std.specs.List.{AllByRecursion}
use Rattle.scp_outbox.specs.scp_types.specs.declared.names.ConnId.{ConnId}
use Rattle.scp_outbox.specs.scp_wire.specs.declared.message.Message.{Message}
use Rattle.scp_outbox.specs.scp_wire.specs.declared.link.Inbound.{Inbound}
use Rattle.scp_outbox.specs.scp_wire.specs.Connections.{same_conn}
use Rattle.scp_outbox.specs.scp_wire.specs.Marks.{one_if}
use Rattle.scp_outbox.specs.scp_wire.specs.Lanes.{slots_of, in_lane, lane_numbers, FollowsIn}
use Rattle.scp_apply.specs.scp_pending.specs.declared.ready.Ready.TheVariants as ready
use Rattle.scp_apply.specs.scp_pending.specs.Rules.{Settled}
use Rattle.scp_apply.specs.scp_pending.specs.Causes.{IsTaken, HasCause}
use Rattle.scp_apply.specs.scp_pending.specs.Endings.{Way, went, over, way_by}
pub use Rattle.scp_apply.specs.scp_pending.specs.Linked.{is_among, IsOfLink}
use Rattle.scp_apply.specs.scp_ledger.specs.declared.journal.Fate.{Fate}
use Rattle.scp_apply.specs.scp_ledger.specs.declared.journal.Fate.TheVariants.{Taken, Dropped, Closed}
use Rattle.scp_apply.specs.scp_ledger.specs.Marks.{marks_of as marks_on}

-- a taken message of the connection is the one with its number
abbrev pub HasItsNumber : ConnId → List Message → Fate → Type 0
HasItsNumber c messages (Taken conn seq message set verdict) = same_conn conn c ≡ true → slice_get messages seq.0 ≡ Some message
HasItsNumber c messages (Dropped conn seq cause) = Unit {0}
HasItsNumber c messages (Closed conn cause) = Unit {0}

-- a connection's fates: in each lane those of its first messages, in order, and then at most an end; a taken message is the one with its number
pub record Fates (c : ConnId) (messages : List Message) (journal : List Fate) : Type 0 where
  pub follows : (s : ℕ) → FollowsIn (lane_numbers s 0 messages) (in_lane (slots_of messages) s (marks_on c journal))
  pub messages_are : AllByRecursion (HasItsNumber c messages) journal

-- ---- whose an entry is

-- the connection that an entry is of
abbrev pub conn_of : Fate → ConnId
conn_of (Taken conn seq message set verdict) = conn
conn_of (Dropped conn seq cause) = conn
conn_of (Closed conn cause) = conn

-- ---- causes

-- A taken message was taken live. An envelope has a sane set with its hash, which was in the store then. A message that was dropped because
-- its set is bad or was abandoned has that cause. One that was dropped by its connection's end has its cause in what is said of that end.
abbrev pub FateHasCause : Settled → List Inbound → Fate → Type 0
FateHasCause start came (Taken conn seq message set verdict) = IsTaken start came (record { conn = conn; seq = seq; message = message; set = option_map (λ s. s.value) set })
FateHasCause start came (Dropped conn seq cause) = HasCause start came (ready.Dropped conn seq cause)
FateHasCause start came (Closed conn cause) = HasCause start came (ready.Closed conn cause)

-- how a message of a connection left, by an entry of the journal
abbrev pub way_on : ConnId → Fate → List Way
way_on c (Taken conn seq message set verdict) = one_if (same_conn conn c) (went seq)
way_on c (Dropped conn seq cause) = one_if (same_conn conn c) (way_by cause seq)
way_on c (Closed conn cause) = one_if (same_conn conn c) (over cause)

-- how the messages of a connection left, by the journal, in order
abbrev pub ways_on : ConnId → List Fate → List Way
ways_on c journal = flat_map (way_on c) journal
