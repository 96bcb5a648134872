-- The lines of a trace that show the facts of one line (this project's profile).
use Rattle.std.specs.Prelude.{ℕ, ◌-◌, Bool, true, false, ◌&&◌, List, [], ◌∷◌, ◌++◌, Option, Some, None, map, flat_map, codes, nat_eq, slice_get, if◌then◌else◌}
use Rattle.std.specs.Fmt.{decimal}
use Rattle.std.specs.Cmp.Lexicographic.{pointwise}
use Rattle.scp_words.specs.scp_types.specs.declared.names.ConnId.{ConnId}
use Rattle.scp_words.specs.scp_types.specs.declared.names.Hash.{Hash}
use Rattle.scp_words.specs.scp_types.specs.declared.names.NodeId.{NodeId}
use Rattle.scp_words.specs.scp_types.specs.declared.names.Seq.{Seq}
use Rattle.scp_words.specs.scp_types.specs.declared.names.Slot.{Slot}
use Rattle.scp_words.specs.scp_envelope.specs.declared.statement.Envelope.{Envelope}
use Rattle.scp_words.specs.scp_wire.specs.declared.link.Cause.{Cause}
use Rattle.scp_words.specs.scp_wire.specs.declared.link.Command.{Command}
use Rattle.scp_words.specs.scp_wire.specs.declared.message.Message.{Message}
use Rattle.scp_words.specs.scp_wire.specs.declared.side.SideMessage.{SideMessage}
use Rattle.scp_words.specs.scp_wire.specs.Reading.{reading_of}
use Rattle.scp_words.specs.scp_pending.specs.declared.becoming.Why.{Why}
use Rattle.scp_words.specs.scp_pending.specs.declared.ready.DropCause.{DropCause}
use Rattle.scp_words.specs.scp_ledger.specs.declared.took.CommandFate.{CommandFate}
use Rattle.scp_words.specs.scp_ledger.specs.declared.journal.Decision.{Decision}
use Rattle.scp_words.specs.scp_ledger.specs.declared.journal.Fate.{Fate}
use Rattle.scp_words.specs.scp_ledger.specs.declared.journal.Fate.TheVariants as fate
use Rattle.scp_words.specs.scp_ledger.specs.declared.journal.Origin.{Origin}
use Rattle.scp_words.specs.scp_ledger.specs.declared.journal.Origin.TheVariants.{Machine, Named}
use Rattle.scp_words.specs.scp_ledger.specs.declared.journal.Verdict.{Verdict}
use Rattle.scp_facts.specs.scp_core.specs.declared.config.Config.{Config}
use Rattle.scp_facts.specs.scp_core.specs.History.{peer_at}
use Rattle.scp_facts.specs.scp_core.specs.Kv.{NodeView}
use Rattle.scp_stand_slot.specs.scp_text.specs.Values.{value_text}
use Rattle.scp_words.specs.Words.{verdict_word, cause_word, drop_word}
use Rattle.scp_stand_slot.specs.declared.names.Names.{Names}
use Rattle.scp_stand_slot.specs.Names.{node_name, name_of, nodes_text, statement_text}
use Rattle.scp_facts.specs.declared.fact.Fact.{Fact}
use Rattle.scp_facts.specs.declared.fact.Fact.TheVariants.{Full, Came, Given, Discarded, Opened, Parked, Heard, Ticked, Missed, Entered, Obeyed, Says, Decided, Applied, Answers, Sent}
use Rattle.scp_facts.specs.declared.fact.Told.{Told}
use Rattle.scp_facts.specs.declared.fact.Telling.{Telling}
use Rattle.scp_facts.specs.declared.fact.Telling.TheVariants.{Line, Of}
use Rattle.scp_trace_text.specs.Words.{verdict_of, why_word, side_word, answer_word}
use Rattle.scp_trace_text.specs.Messages.{conn_text, place_text, message_named, side_named, sent_text}
use Rattle.scp_trace_text.specs.Commands.{command_words}

-- ---- connections, and the pending stage

-- A queue was full, so the line will be tried once more.
abbrev pub full_line : ℕ → List ℕ
full_line line = codes "line " ++ decimal line ++ codes " full\n"

-- Something that came on a connection after its end was discarded.
abbrev pub discarded_line : Names → NodeId → ConnId → List ℕ
discarded_line names me conn = node_name names me ++ codes " discarded " ++ conn_text names conn ++ codes "\n"

-- The connection was opened at the pending stage.
abbrev pub opened_line : Names → NodeId → ConnId → List ℕ
opened_line names me conn = node_name names me ++ codes " opened " ++ conn_text names conn ++ codes "\n"

-- A message was parked, or was one too many.
abbrev pub parked_line : Names → NodeId → ConnId → Seq → Why → Message → List ℕ
parked_line names me conn seq why message = node_name names me ++ codes " parked " ++ place_text names conn seq ++ codes " " ++ why_word why ++ codes " " ++ message_named names message ++ codes "\n"

-- What became of a message without a number, if there is a word for that.
abbrev pub side_line : Names → NodeId → ConnId → Option (List ℕ) → SideMessage → List ℕ
side_line names me conn None message = []
side_line names me conn (Some word) message = node_name names me ++ codes " side " ++ conn_text names conn ++ codes " " ++ word ++ codes " " ++ side_named names message ++ codes "\n"

-- Time passed.
abbrev pub tick_line : Names → NodeId → List ℕ
tick_line names me = node_name names me ++ codes " tick\n"

-- By now a wanted hash was missed this many times.
abbrev pub missed_line : Names → NodeId → Hash → ℕ → List ℕ
missed_line names me hash misses = node_name names me ++ codes " missed " ++ decimal misses ++ codes " " ++ name_of names hash ++ codes "\n"

-- ---- the journal

-- A message was taken.
abbrev pub took_line : Names → NodeId → ConnId → Seq → Verdict → Message → List ℕ
took_line names me conn seq verdict message = node_name names me ++ codes " took " ++ place_text names conn seq ++ codes " " ++ verdict_word verdict ++ codes " " ++ message_named names message ++ codes "\n"

-- A statement conflicts with the message, if there is one.
abbrev pub conflict_line : Names → NodeId → ConnId → Seq → Option Envelope → List ℕ
conflict_line names me conn seq None = []
conflict_line names me conn seq (Some e) = node_name names me ++ codes " conflict " ++ place_text names conn seq ++ codes " " ++ statement_text names e ++ codes "\n"

-- A message was dropped.
abbrev pub dropped_line : Names → NodeId → ConnId → Seq → DropCause → List ℕ
dropped_line names me conn seq cause = node_name names me ++ codes " dropped " ++ place_text names conn seq ++ codes " " ++ drop_word cause ++ codes "\n"

-- A connection ended.
abbrev pub closed_line : Names → NodeId → ConnId → Cause → List ℕ
closed_line names me conn cause = node_name names me ++ codes " closed " ++ conn_text names conn ++ codes " " ++ cause_word cause ++ codes "\n"

-- The lines of a journal entry, if there is one, and of the statement that conflicts with it, if there is one.
abbrev pub entry_lines : Names → NodeId → Option Envelope → Option Fate → List ℕ
entry_lines names me standing None = []
entry_lines names me standing (Some (fate.Taken conn seq message set verdict)) = took_line names me conn seq verdict message ++ conflict_line names me conn seq standing
entry_lines names me standing (Some (fate.Dropped conn seq cause)) = dropped_line names me conn seq cause
entry_lines names me standing (Some (fate.Closed conn cause)) = closed_line names me conn cause

-- ---- the slot stage and the applier

-- What became of a command.
abbrev pub command_line : Names → Config → CommandFate → Command → List ℕ
command_line names config fate command = node_name names config.me ++ codes " command " ++ verdict_word (verdict_of fate) ++ codes " " ++ command_words names config command ++ codes "\n"

-- A statement of the node's own.
abbrev pub says_line : Names → NodeId → Envelope → List ℕ
says_line names me e = node_name names me ++ codes " says " ++ statement_text names e ++ codes "\n"

-- A decision of the node's own machine: the counter of the commit, and the quorum that accepts it.
abbrev pub machine_words : Names → ℕ → List NodeId → List ℕ
machine_words names n quorum = codes "machine " ++ decimal n ++ codes " " ++ nodes_text names quorum

-- A decision from a record: the record's connection and its number there.
abbrev pub record_words : Names → ConnId → Seq → List ℕ
record_words names conn seq = codes "record " ++ place_text names conn seq

-- What a decision rests on.
abbrev pub origin_words : Names → Origin → List ℕ
origin_words names (Machine n quorum own) = machine_words names n quorum
origin_words names (Named conn seq) = record_words names conn seq

-- The line of a decision, if there is one.
abbrev pub decided_line : Names → NodeId → Option Decision → List ℕ
decided_line names me None = []
decided_line names me (Some d) = node_name names me ++ codes " decided " ++ decimal d.slot.0 ++ codes " " ++ value_text d.value ++ codes " " ++ origin_words names d.origin ++ codes "\n"

-- The line of a decision that was applied, if there is one.
abbrev pub applied_line : Names → NodeId → Option Decision → List ℕ
applied_line names me None = []
applied_line names me (Some d) = node_name names me ++ codes " applied " ++ decimal d.slot.0 ++ codes "\n"

-- The answer to a node that asks for the record of a slot: whether there is one.
abbrev pub answers_line : Names → NodeId → NodeId → Slot → Bool → List ℕ
answers_line names me asker slot is_there = node_name names me ++ codes " answers " ++ node_name names asker ++ codes " " ++ answer_word is_there ++ codes " " ++ decimal slot.0 ++ codes "\n"

-- ---- what was sent

-- The same bytes were sent to each of these nodes.
abbrev pub sent_line : Names → NodeId → List NodeId → List ℕ → List ℕ
sent_line names me nodes bytes = node_name names me ++ codes " sent " ++ nodes_text names nodes ++ codes " " ++ sent_text names bytes (reading_of bytes) ++ codes "\n"

-- ---- a fact

-- The lines of a fact at a node, as it is now. `line` is the number of the script's line that was played. `others` are the links on which the
-- same was sent right after. What only came in has no line; what becomes of it has one.
abbrev pub fact_line : Names → ℕ → NodeView → List ℕ → Fact → List ℕ
fact_line names line v others Full = full_line line
fact_line names line v others (Came conn bytes) = []
fact_line names line v others (Given command) = []
fact_line names line v others (Discarded conn) = discarded_line names v.config.me conn
fact_line names line v others (Opened conn) = opened_line names v.config.me conn
fact_line names line v others (Parked conn seq why message) = parked_line names v.config.me conn seq why message
fact_line names line v others (Heard conn became message) = side_line names v.config.me conn (side_word became) message
fact_line names line v others Ticked = tick_line names v.config.me
fact_line names line v others (Missed hash misses) = missed_line names v.config.me hash misses
fact_line names line v others (Entered entry standing) = entry_lines names v.config.me standing (slice_get v.ledger.journal entry)
fact_line names line v others (Obeyed fate command) = command_line names v.config fate command
fact_line names line v others (Says e) = says_line names v.config.me e
fact_line names line v others (Decided place) = decided_line names v.config.me (slice_get v.ledger.decisions place)
fact_line names line v others (Applied place) = applied_line names v.config.me (slice_get v.applier.applied place)
fact_line names line v others (Answers link slot is_there) = answers_line names v.config.me (peer_at v.config link) slot is_there
fact_line names line v others (Sent link bytes) = sent_line names v.config.me (map (peer_at v.config) (link ∷ others)) bytes

-- The lines of a fact of a node, if there is such a node.
abbrev pub told_line : Names → ℕ → Option NodeView → List ℕ → Told → List ℕ
told_line names line None others told = []
told_line names line (Some v) others told = fact_line names line v others told.fact

-- ---- all facts of a line

-- A message or command that only came in isn't shown. Every other fact is.
abbrev pub is_shown : Fact → Bool
is_shown (Came conn bytes) = false
is_shown (Given command) = false
is_shown fact = true

-- The fact, if it is shown.
abbrev pub shown_of : Telling → List Told
shown_of (Line line) = []
shown_of (Of told) = if is_shown told.fact then told ∷ [] else []

-- The facts that are shown, in order.
abbrev pub shown : List Telling → List Told
shown tellings = flat_map shown_of tellings

-- The bytes that were sent, if the fact is that something was sent.
abbrev pub sent_in : Fact → Option (List ℕ)
sent_in (Sent link bytes) = Some bytes
sent_in fact = None

-- The link on which they were sent.
abbrev pub link_in : Fact → List ℕ
link_in (Sent link bytes) = link ∷ []
link_in fact = []

-- Both are there and are the same bytes.
abbrev pub are_same : Option (List ℕ) → Option (List ℕ) → Bool
are_same None b = false
are_same (Some a) None = false
are_same (Some a) (Some b) = pointwise nat_eq a b

-- The same node sent the same bytes.
abbrev pub goes_with : Told → Told → Bool
goes_with a b = nat_eq a.node b.node && are_same (sent_in a.fact) (sent_in b.fact)

-- The links on which the same node sent the same bytes right after this.
abbrev pub others : Told → List Told → List ℕ
others told [] = []
others told (next ∷ more) = if goes_with told next then link_in next.fact ++ others told more else []

-- The fact belongs to the one before it, if there is one.
abbrev pub goes_with_last : Option Told → Told → Bool
goes_with_last None told = false
goes_with_last (Some last) told = goes_with last told

-- The lines of facts that are shown, after the fact `last`, at nodes as they are now. Each fact has its own lines, except that a fact
-- that belongs to the one before it is included in that one's line.
abbrev pub told_lines : Names → ℕ → List NodeView → Option Told → List Told → List ℕ
told_lines names line nodes last [] = []
told_lines names line nodes last (told ∷ more) =
    (if goes_with_last last told then [] else told_line names line (slice_get nodes (told.node - 1)) (others told more) told) ++ told_lines names line nodes (Some told) more

-- The lines of all facts of a line's steps, at nodes as they are now.
abbrev pub facts_text : Names → ℕ → List NodeView → List Telling → List ℕ
facts_text names line nodes tellings = told_lines names line nodes None (shown tellings)
