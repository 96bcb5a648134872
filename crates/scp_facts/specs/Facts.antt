-- What the steps of a node tell, seen from outside (this project's profile).
use Rattle.std.specs.Prelude.{ℕ, ◌+◌, ◌-◌, zero, suc, Bool, true, false, List, [], ◌∷◌, ◌++◌, Option, Some, None, length, map, filter, is_some, slice_get, if◌then◌else◌}
use Rattle.scp_turn.specs.scp_types.specs.declared.names.ConnId.{ConnId}
use Rattle.scp_turn.specs.scp_types.specs.declared.names.NodeId.{NodeId}
use Rattle.scp_turn.specs.scp_types.specs.declared.names.Slot.{Slot}
use Rattle.scp_turn.specs.scp_envelope.specs.declared.statement.Envelope.{Envelope}
use Rattle.scp_turn.specs.scp_wire.specs.Connections.{conn_at}
use Rattle.scp_turn.specs.scp_wire.specs.declared.carried.Carried.{Carried}
use Rattle.scp_turn.specs.scp_wire.specs.declared.message.Message.{Message}
use Rattle.scp_turn.specs.scp_wire.specs.declared.message.Message.TheVariants as message
use Rattle.scp_turn.specs.scp_wire.specs.declared.side.SideMessage.{SideMessage}
use Rattle.scp_turn.specs.scp_wire.specs.declared.side.SideMessage.TheVariants as side
use Rattle.scp_turn.specs.scp_wire.specs.declared.link.LinkItem.{LinkItem}
use Rattle.scp_turn.specs.scp_wire.specs.declared.link.LinkItem.TheVariants as item
use Rattle.scp_turn.specs.scp_wire.specs.declared.link.Inbound.{Inbound}
use Rattle.scp_turn.specs.scp_wire.specs.declared.link.Inbound.TheVariants as inbound
use Rattle.scp_turn.specs.scp_wire.specs.declared.link.Command.{Command}
use Rattle.scp_turn.specs.scp_vote.specs.Board.{kind_of_pledges}
use Rattle.scp_turn.specs.scp_vote.specs.Seen.{envelope_at}
use Rattle.scp_turn.specs.scp_vote.specs.declared.claim.StatementKind.{StatementKind}
use Rattle.scp_turn.specs.scp_vote.specs.declared.claim.StatementKind.TheVariants.{Nomination, Balloting}
use Rattle.scp_turn.specs.scp_nominate.specs.Nomination.{board_of}
use Rattle.scp_turn.specs.scp_driver.specs.declared.kv_driver.KvDriver.{KvDriver}
use Rattle.scp_turn.specs.scp_slot.specs.declared.machine.SlotMachine.{SlotMachine}
use Rattle.scp_turn.specs.scp_slot.specs.Slot.{nominator_of, balloter_of}
use Rattle.scp_turn.specs.scp_fetch.specs.declared.want.Want.{Want}
use Rattle.scp_turn.specs.scp_fetch.specs.Wants.{is_for}
use Rattle.scp_turn.specs.scp_pending.specs.declared.ready.Ready.{Ready}
use Rattle.scp_turn.specs.scp_pending.specs.declared.ready.Ready.TheVariants as ready
use Rattle.scp_turn.specs.scp_pending.specs.declared.becoming.Becoming.{Becoming}
use Rattle.scp_turn.specs.scp_pending.specs.declared.becoming.Becoming.TheVariants as becoming
use Rattle.scp_turn.specs.scp_pending.specs.Becoming.{becoming as becoming_of}
use Rattle.scp_turn.specs.scp_pending.specs.Rules.{Settled}
use Rattle.scp_turn.specs.scp_ledger.specs.declared.took.CommandFate.{CommandFate}
use Rattle.scp_turn.specs.scp_ledger.specs.declared.took.Onward.{Onward}
use Rattle.scp_turn.specs.scp_ledger.specs.declared.took.Onward.TheVariants as onward
use Rattle.scp_turn.specs.scp_ledger.specs.declared.journal.Decision.{Decision}
use Rattle.scp_turn.specs.scp_ledger.specs.declared.journal.Fate.{Fate}
use Rattle.scp_turn.specs.scp_ledger.specs.declared.journal.Fate.TheVariants as fate
use Rattle.scp_turn.specs.scp_ledger.specs.declared.journal.Verdict.{Verdict}
use Rattle.scp_turn.specs.scp_ledger.specs.declared.journal.Verdict.TheVariants.{Stale}
use Rattle.scp_turn.specs.scp_ledger.specs.Seen.{machine_at}
use Rattle.scp_turn.specs.scp_apply.specs.Applied.{value_of}
use Rattle.scp_turn.specs.scp_core.specs.declared.event.Event.{Event}
use Rattle.scp_turn.specs.scp_core.specs.declared.event.Event.TheVariants as event
use Rattle.scp_turn.specs.scp_core.specs.declared.event.Reply.{Reply}
use Rattle.scp_turn.specs.scp_core.specs.declared.event.Reply.TheVariants as reply
use Rattle.scp_turn.specs.scp_core.specs.History.{peer_at}
use Rattle.scp_turn.specs.scp_core.specs.Node.{lives_at, item_at, has_read_at}
use Rattle.scp_turn.specs.scp_core.specs.Kv.{NodeView}
use Rattle.scp_facts.specs.declared.fact.Fact.{Fact}
use Rattle.scp_facts.specs.declared.fact.Fact.TheVariants.{Full, Came, Given, Discarded, Opened, Parked, Heard, Ticked, Missed, Entered, Obeyed, Says, Decided, Applied, Answers, Sent}
use Rattle.scp_facts.specs.Standing.{in_the_way}

-- ---- what a line's event or another node brings

-- these, where the event was accepted; that there was no room, where there was none; and else nothing
abbrev pub offered : List Fact → Reply → List Fact
offered facts reply.Accepted = facts
offered facts reply.Full = Full ∷ []
offered facts reply = []

-- these, where the step moved something
abbrev pub moved : List Fact → Reply → List Fact
moved facts reply.Moved = facts
moved facts reply = []

-- the bytes that were sent over this link, where any were
abbrev pub drained : ℕ → Reply → List Fact
drained link (reply.Sent bytes) = Sent link bytes ∷ []
drained link reply = []

-- the connection that is open on this link: its last life
abbrev pub conn_on : NodeView → ℕ → ConnId
conn_on v link = conn_at (peer_at v.config link) v.config.me (lives_at v link)

-- ---- what a reader takes

-- the connection of bytes, where they are what the reader takes
abbrev pub conn_of_bytes : Option LinkItem → Option ConnId
conn_of_bytes None = None
conn_of_bytes (Some (item.Opened conn)) = None
conn_of_bytes (Some (item.Bytes conn bytes)) = Some conn
conn_of_bytes (Some (item.Closed conn)) = None

-- bytes of which it read nothing were of a connection that had ended
abbrev pub discarded : Option ConnId → Bool → List Fact
discarded None has_read = []
discarded (Some conn) true = []
discarded (Some conn) false = Discarded conn ∷ []

-- ---- what the pending stage takes

-- the miss that a wanted hash has now, counted with those before it
abbrev pub missed : Want → Fact
missed want = Missed want.hash (want.misses + 1)

-- the misses of all that is wanted, in the order in which it became so
abbrev pub all_missed : List Want → List Fact
all_missed wanted = map missed wanted

-- the miss of the hash that a message says there is no set of, where that is wanted
abbrev pub missed_by : SideMessage → List Want → List Fact
missed_by (side.GetSet hash) wanted = []
missed_by (side.Set set) wanted = []
missed_by (side.NoSet hash) wanted = map missed (filter (is_for hash) wanted)

-- the beginning of a connection tells that it opened, where it does
abbrev pub beginning_tells : ConnId → Becoming → List Fact
beginning_tells conn becoming.Opens = Opened conn ∷ []
beginning_tells conn became = []

-- a numbered message that goes through tells nothing here: its entry in the journal does
abbrev pub carried_tells : Carried → Becoming → List Fact
carried_tells x becoming.Discarded = Discarded x.conn ∷ []
carried_tells x (becoming.Parks why) = Parked x.conn x.seq why x.message ∷ []
carried_tells x became = []

-- a message without a number tells what became of it, and behind a miss which miss it was
abbrev pub side_tells : ConnId → SideMessage → List Want → Becoming → List Fact
side_tells conn message wanted becoming.Discarded = Discarded conn ∷ []
side_tells conn message wanted becoming.Missed = Heard conn becoming.Missed message ∷ missed_by message wanted
side_tells conn message wanted became = Heard conn became message ∷ []

-- a Tick tells that time passed, and the misses of all that is wanted; another command tells nothing here
abbrev pub command_tells : List Want → Becoming → List Fact
command_tells wanted becoming.Ticks = Ticked ∷ all_missed wanted
command_tells wanted became = []

-- what an item tells that becomes this
abbrev pub item_tells : Settled → Inbound → Becoming → List Fact
item_tells s (inbound.Opened conn) became = beginning_tells conn became
item_tells s (inbound.Carried x) became = carried_tells x became
item_tells s (inbound.Side conn message) became = side_tells conn message s.wanted became
item_tells s (inbound.Closed conn cause) became = []
item_tells s (inbound.Local command) became = command_tells s.wanted became

-- what the first item of the inbox tells, by what would become of it
abbrev pub first_tells : Settled → Option Inbound → List Fact
first_tells s None = []
first_tells s (Some item) = item_tells s item (becoming_of s item)

-- it is taken where nothing is ready; else the stage only brings what is
abbrev pub pending_tells : NodeView → List Fact
pending_tells v = if is_some (slice_get v.pending.leaving 0) then [] else first_tells v.pending.settled (slice_get v.inbox 0)

-- ---- what grew

-- so many numbers from this one on
abbrev pub numbers_from : ℕ → ℕ → List ℕ
numbers_from first zero = []
numbers_from first (suc more) = first ∷ numbers_from (first + 1) more

-- the places of a list of so many elements, from the first that wasn't there where it had so many
abbrev pub places : ℕ → ℕ → List ℕ
places before now = numbers_from before (now - before)

-- ---- what the slot stage takes

-- the newest statement of this kind and node on a machine's boards
abbrev pub stands_at : StatementKind → NodeId → SlotMachine KvDriver → Option Envelope
stands_at Nomination node m = envelope_at Nomination (board_of (nominator_of m)) node
stands_at Balloting node m = envelope_at Balloting (balloter_of m).board node

-- the newest statement of the node, the slot and the kind of this one, where the slot has a machine
abbrev pub stands_in : Option (SlotMachine KvDriver) → Envelope → Option Envelope
stands_in None e = None
stands_in (Some m) e = stands_at (kind_of_pledges e.statement.pledges) e.statement.node m

-- that statement in a node's ledger; a failed node shows none
abbrev pub standing : NodeView → Envelope → Option Envelope
standing v e = if v.failed then None else stands_in (machine_at v.ledger.machines e.statement.slot.0) e

-- what stands in the way of a message with this verdict: of a stale envelope's only
abbrev pub way_of : NodeView → Message → Verdict → Option Envelope
way_of v (message.Envelope e) Stale = in_the_way e.value (standing v e.value)
way_of v message verdict = None

-- the same of an entry
abbrev pub way_of_entry : NodeView → Option Fate → Option Envelope
way_of_entry v None = None
way_of_entry v (Some (fate.Taken conn seq message set verdict)) = way_of v message verdict
way_of_entry v (Some (fate.Dropped conn seq cause)) = None
way_of_entry v (Some (fate.Closed conn cause)) = None

-- the journal's entry at this place, of the node as it stands behind the step: a stale statement leaves what stands
abbrev pub entered : NodeView → ℕ → Fact
entered v place = Entered place (way_of_entry v (slice_get v.ledger.journal place))

-- the command, where it is one that the slot stage takes next
abbrev pub command_in : Option Ready → Option Command
command_in None = None
command_in (Some (ready.Deliver delivery)) = None
command_in (Some (ready.Dropped conn seq cause)) = None
command_in (Some (ready.Closed conn cause)) = None
command_in (Some (ready.Local command)) = Some command

-- the command that was taken, with what became of it
abbrev pub obeyed : Option Command → Option CommandFate → List Fact
obeyed None fate = []
obeyed (Some command) None = []
obeyed (Some command) (Some fate) = Obeyed fate command ∷ []

-- the entries and decisions that are new where there were so many before, the command that was taken, and what was said
abbrev pub slot_tells : ℕ → ℕ → Option Command → NodeView → List Fact
slot_tells entries decisions command v =
    map (entered v) (places entries (length v.ledger.journal)) ++ (obeyed command v.last_command ++ (map Says v.last_said ++ map Decided (places decisions (length v.ledger.decisions))))

-- ---- what the applier takes

-- the link and the slot of a request, where one is what the applier takes
abbrev pub asked_in : Option Onward → Option (ℕ × Slot)
asked_in None = None
asked_in (Some (onward.Decided decision)) = None
asked_in (Some (onward.Asked link slot)) = Some (link, slot)

-- a request tells whether there is a record to send
abbrev pub answers : Option (ℕ × Slot) → List Decision → List Fact
answers None applied = []
answers (Some asked) applied = Answers asked.0 asked.1 (is_some (value_of asked.1.0 applied)) ∷ []

-- what is newly applied where so much was before, and the answer
abbrev pub applier_tells : ℕ → Option (ℕ × Slot) → NodeView → List Fact
applier_tells before asked v = map Applied (places before (length v.applier.applied)) ++ answers asked v.applier.applied

-- ---- a step

-- what a step tells, by its event, its reply, and the node before and after it
abbrev pub facts_in : Event → Reply → NodeView → NodeView → List Fact
facts_in (event.Open link) reply before after' = offered [] reply
facts_in (event.Send link bytes) reply before after' = offered (Came (conn_on before link) bytes ∷ []) reply
facts_in (event.Close link) reply before after' = offered [] reply
facts_in (event.Local command) reply before after' = offered (Given command ∷ []) reply
facts_in (event.ReaderTake link) reply before after' = moved (discarded (conn_of_bytes (item_at before link)) (has_read_at after' link)) reply
facts_in (event.ReaderPut link) reply before after' = []
facts_in event.PendTake reply before after' = moved (pending_tells before) reply
facts_in event.PendPut reply before after' = []
facts_in event.SlotTake reply before after' = moved (slot_tells (length before.ledger.journal) (length before.ledger.decisions) (command_in (slice_get before.ready 0)) after') reply
facts_in event.SlotPut reply before after' = []
facts_in event.ApplyTake reply before after' = moved (applier_tells (length before.applier.applied) (asked_in (slice_get before.decided 0)) after') reply
facts_in (event.Drain link) reply before after' = drained link reply
