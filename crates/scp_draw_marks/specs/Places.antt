-- Where the facts of a run are in its picture (this project's profile). Each slot has a section with its own rows, and so have the facts
-- of no slot. Time goes downwards. Each line of the script begins below everything before it, and so does each round. In a round, the
-- nodes are side by side, and the facts of one node are below one another. What a node takes is below the row in which it came.
use Rattle.std.specs.Prelude.{ℕ, zero, suc, ◌+◌, ◌-◌, Bool, true, false, List, [], ◌∷◌, ◌++◌, Option, Some, None, filter, max, nat_eq, nat_lt, slice_get, if◌then◌else◌}
use Rattle.scp_words.specs.scp_types.specs.declared.names.ConnId.{ConnId}
use Rattle.scp_words.specs.scp_wire.specs.Reading.{reading_of}
use Rattle.scp_facts.specs.scp_core.specs.Kv.{NodeView}
use Rattle.scp_facts.specs.declared.fact.Fact.{Fact}
use Rattle.scp_facts.specs.declared.fact.Fact.TheVariants.{Full, Came, Given, Discarded, Opened, Parked, Heard, Ticked, Missed, Entered, Obeyed, Says, Decided, Applied, Answers, Sent}
use Rattle.scp_facts.specs.declared.fact.Told.{Told}
use Rattle.scp_facts.specs.declared.fact.Telling.{Telling}
use Rattle.scp_facts.specs.declared.fact.Telling.TheVariants.{Line, Of}
use Rattle.scp_draw_marks.specs.declared.topic.Kind.TheVariants as kind
use Rattle.scp_draw_marks.specs.declared.topic.Topic.{Topic}
use Rattle.scp_draw_marks.specs.declared.topic.Letter.{Letter}
use Rattle.scp_draw_marks.specs.declared.marks.Act.{Act}
use Rattle.scp_draw_marks.specs.declared.marks.Act.TheVariants as act
use Rattle.scp_draw_marks.specs.declared.marks.Pen.{Pen}
use Rattle.scp_draw_marks.specs.declared.marks.Mark.{Mark}
use Rattle.scp_draw_marks.specs.Topics.{same_slot, of_slot, of_none, topic_of_envelope, topic_of_message, topic_of_reading, numbers_of_reading, is_of, topic_of_command, topic_of_entry, topic_of_decision, came_by}

-- ---- letters

-- The last element of a list, or `found` if the list is empty.
abbrev pub last_or : {X : Type 0} → Option X → List X → Option X
last_or {X} found [] = found
last_or {X} found (x ∷ xs) = last_or (Some x) xs

-- The newest letter of a connection. With a number, the newest that has this number.
abbrev pub newest : ConnId → Option ℕ → List Letter → Option Letter
newest conn seq letters = last_or None (filter (is_of conn seq) letters)

-- The next number, at most 2^64 - 1.
abbrev pub up : ℕ → ℕ
up n = if nat_lt n 18446744073709551615 then n + 1 else n

-- The number after that of a letter. Without a letter, it is 0.
abbrev pub seq_behind : Option Letter → ℕ
seq_behind None = 0
seq_behind (Some letter) = up letter.seq

-- The next letter of a connection.
abbrev pub next_letter : ConnId → Topic → ℕ → List Letter → Letter
next_letter conn topic row letters = record { conn = conn; seq = seq_behind (newest conn None letters); topic = topic; row = row }

-- The letters with this many more of a connection.
abbrev pub with_letters : ℕ → ConnId → Topic → ℕ → List Letter → List Letter
with_letters zero conn topic row letters = letters
with_letters (suc more) conn topic row letters = with_letters more conn topic row (letters ++ next_letter conn topic row letters ∷ [])

-- The letter of a fact's message, if the fact has one.
abbrev pub letter_of : Option (ConnId × ℕ) → List Letter → Option Letter
letter_of None letters = None
letter_of (Some place) letters = newest place.0 (Some place.1) letters

-- The row in which a letter came, if it is in the same section.
abbrev pub row_of_letter : Topic → Option Letter → Option ℕ
row_of_letter topic None = None
row_of_letter topic (Some letter) = if same_slot letter.topic.slot topic.slot then Some letter.row else None

-- ---- the topics of facts

-- The topic of a fact at a node as it is now, with the letters that came.
abbrev pub topic_of_fact : NodeView → List Letter → Fact → Topic
topic_of_fact v letters Full = of_none kind.Links
topic_of_fact v letters (Came conn bytes) = topic_of_reading (reading_of bytes)
topic_of_fact v letters (Given command) = topic_of_command command
topic_of_fact v letters (Discarded conn) = of_none kind.Links
topic_of_fact v letters (Opened conn) = of_none kind.Links
topic_of_fact v letters (Parked conn seq why message) = topic_of_message message
topic_of_fact v letters (Heard conn became message) = of_none kind.Sets
topic_of_fact v letters Ticked = of_none kind.Sets
topic_of_fact v letters (Missed hash misses) = of_none kind.Sets
topic_of_fact v letters (Entered entry standing) = topic_of_entry (letter_of (came_by v (Entered entry standing)) letters) (slice_get v.ledger.journal entry)
topic_of_fact v letters (Obeyed fate command) = topic_of_command command
topic_of_fact v letters (Says e) = topic_of_envelope e
topic_of_fact v letters (Decided place) = topic_of_decision (slice_get v.ledger.decisions place)
topic_of_fact v letters (Applied place) = topic_of_decision (slice_get v.applier.applied place)
topic_of_fact v letters (Answers link slot is_there) = of_slot kind.Records slot.0
topic_of_fact v letters (Sent link bytes) = topic_of_reading (reading_of bytes)

-- What the node does in a fact, as far as others of its facts depend on it.
abbrev pub act_of : Fact → Act
act_of Full = act.Else
act_of (Came conn bytes) = act.Else
act_of (Given command) = act.Else
act_of (Discarded conn) = act.Else
act_of (Opened conn) = act.Else
act_of (Parked conn seq why message) = act.Else
act_of (Heard conn became message) = act.Else
act_of Ticked = act.Else
act_of (Missed hash misses) = act.Else
act_of (Entered entry standing) = act.Else
act_of (Obeyed fate command) = act.Else
act_of (Says e) = act.Says
act_of (Decided place) = act.Decides
act_of (Applied place) = act.Else
act_of (Answers link slot is_there) = act.Else
act_of (Sent link bytes) = act.Sends

-- The act takes a row. Sending takes none: it is beside the node's fact before it.
abbrev pub takes_row : Act → Bool
takes_row act.Says = true
takes_row act.Sends = false
takes_row act.Decides = true
takes_row act.Else = true

-- ---- rows

-- The pen at the top of a section.
abbrev pub new_pen : Option ℕ → Pen
new_pen slot = record { slot = slot; line = 0; node = 0; top = 0; row = 0; floor = 0 }

-- The pen of a section. Each section begins at the top.
abbrev pub pen_of : Option ℕ → List Pen → Pen
pen_of slot [] = new_pen slot
pen_of slot (pen ∷ pens) = if same_slot pen.slot slot then pen else pen_of slot pens

-- The pens, with this pen in place of its section's. The pen of a new section comes last.
abbrev pub with_pen : Pen → List Pen → List Pen
with_pen pen [] = pen ∷ []
with_pen pen (first ∷ pens) = if same_slot first.slot pen.slot then pen ∷ pens else first ∷ with_pen pen pens

-- The pen at this line. A new line of the script begins below everything before it.
abbrev pub on_line : ℕ → Pen → Pen
on_line line pen = if nat_eq line pen.line then pen else record pen { line = line; node = 0; top = pen.floor; row = pen.floor }

-- The pen at a fact of this node. A fact of the same node goes below the one before it, if it takes a row. A fact of a later node goes
-- beside it, to the top of the round. A fact of an earlier node begins a new round.
abbrev pub at_node : ℕ → Bool → Pen → Pen
at_node node takes pen =
    if nat_eq node pen.node then (if takes then record pen { row = up pen.row } else pen)
    else if nat_lt pen.node node then record pen { node = node; row = pen.top }
    else record pen { node = node; top = pen.floor; row = pen.floor }

-- The pen below the row in which a message came, if there is one.
abbrev pub below : Option ℕ → Pen → Pen
below None pen = pen
below (Some from) pen = record pen { row = max pen.row (up from) }

-- The pen with its floor below its row.
abbrev pub with_floor : Pen → Pen
with_floor pen = record pen { floor = max pen.floor (up pen.row) }

-- ---- marks

-- What contracts see of a picture that is being made.
pub record DrawingView : Type 0 where
  pub line : ℕ
  pub letters : List Letter
  pub pens : List Pen
  pub marks : List Mark

-- A picture of no facts.
abbrev pub blank : DrawingView
blank = record { line = 0; letters = []; pens = []; marks = [] }

-- The mark of a fact that is shown. `at` is its index among all reports.
abbrev pub mark_of : ℕ → Topic → Option ℕ → Pen → Pen → ℕ → Told → Mark
mark_of at topic from begun pen line told = record {
  at = at;
  node = told.node;
  topic = topic;
  act = act_of told.fact;
  line = line;
  begins = nat_eq begun.node 0;
  row = pen.row;
  from = from;
}

-- The picture with the mark added, and the section's pen moved on.
abbrev pub marked : ℕ → Topic → Option ℕ → Pen → Pen → Told → DrawingView → DrawingView
marked at topic from begun pen told d = record d { pens = with_pen pen d.pens; marks = d.marks ++ mark_of at topic from begun pen d.line told ∷ [] }

-- The picture after an arrival, which has no mark. Its letters are kept, with the row in which they came.
abbrev pub posted : ConnId → ℕ → Topic → Pen → DrawingView → DrawingView
posted conn count topic pen d = record d { pens = with_pen pen d.pens; letters = with_letters count conn topic pen.row d.letters }

-- The pen of this topic's section, at the line that was played.
abbrev pub pen_on : Topic → DrawingView → Pen
pen_on topic d = on_line d.line (pen_of topic.slot d.pens)

-- The pen moved on for a fact of a node, whose message came in this row if it has one.
abbrev pub moved : Told → Option ℕ → Pen → Pen
moved told from pen = with_floor (below from (at_node told.node (takes_row (act_of told.fact)) pen))

-- The picture with a fact that is shown. The fact has this topic, and its message came in this row if it has one.
abbrev pub shown : ℕ → Told → Topic → Option ℕ → DrawingView → DrawingView
shown at told topic from d = marked at topic from (pen_on topic d) (moved told from (pen_on topic d)) told d

-- The same, with the row taken from the letter of the fact, if it has one.
abbrev pub shown_by : ℕ → Told → Topic → Option Letter → DrawingView → DrawingView
shown_by at told topic letter d = shown at told topic (row_of_letter topic letter) d

-- The picture with one more fact of a node as it is now. A command that only came in adds nothing.
abbrev pub with_fact : ℕ → NodeView → Told → Fact → DrawingView → DrawingView
with_fact at v told (Came conn bytes) d = posted conn (numbers_of_reading (reading_of bytes)) (topic_of_reading (reading_of bytes)) (pen_on (topic_of_reading (reading_of bytes)) d) d
with_fact at v told (Given command) d = d
with_fact at v told fact d = shown_by at told (topic_of_fact v d.letters fact) (letter_of (came_by v fact) d.letters) d

-- The picture with one more fact, if its node is there. Otherwise nothing is drawn.
abbrev pub with_told : ℕ → Option NodeView → Told → DrawingView → DrawingView
with_told at None told d = d
with_told at (Some v) told d = with_fact at v told told.fact d

-- The picture with the report at this index of all reports about these nodes.
abbrev pub with_telling : List NodeView → ℕ → Telling → DrawingView → DrawingView
with_telling nodes at (Line line) d = record d { line = line }
with_telling nodes at (Of told) d = with_told at (slice_get nodes (told.node - 1)) told d

-- The picture with all these reports, the first of which has this index.
abbrev pub with_tellings : List NodeView → ℕ → List Telling → DrawingView → DrawingView
with_tellings nodes at [] d = d
with_tellings nodes at (telling ∷ tellings) d = with_tellings nodes (at + 1) tellings (with_telling nodes at telling d)

-- The picture of all reports.
abbrev pub drawn : List NodeView → List Telling → DrawingView
drawn nodes tellings = with_tellings nodes 0 tellings blank
