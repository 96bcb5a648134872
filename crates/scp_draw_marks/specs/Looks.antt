-- How the facts of a run look in its picture: their classes, which the page colours and hides, and their signs (this project's profile).
use Rattle.std.specs.Prelude.{ℕ, ◌-◌, ◌&&◌, ◌||◌, not, Bool, true, false, List, [], ◌∷◌, ◌++◌, Option, Some, None, codes, filter, nat_eq, slice_get, if◌then◌else◌}
use Rattle.std.specs.Cmp.Lexicographic.{pointwise}
use Rattle.scp_words.specs.scp_envelope.specs.declared.statement.Envelope.{Envelope}
use Rattle.scp_words.specs.scp_ledger.specs.declared.journal.Decision.{Decision}
use Rattle.scp_words.specs.scp_ledger.specs.declared.journal.Fate.{Fate}
use Rattle.scp_words.specs.scp_ledger.specs.declared.journal.Fate.TheVariants as fate
use Rattle.scp_facts.specs.scp_core.specs.Kv.{NodeView}
use Rattle.scp_words.specs.Words.{verdict_word, fate_word}
use Rattle.scp_facts.specs.declared.fact.Fact.{Fact}
use Rattle.scp_facts.specs.declared.fact.Fact.TheVariants.{Full, Came, Given, Discarded, Opened, Parked, Heard, Ticked, Missed, Entered, Obeyed, Says, Decided, Applied, Answers, Sent}
use Rattle.scp_facts.specs.declared.fact.Telling.{Telling}
use Rattle.scp_facts.specs.declared.fact.Telling.TheVariants.{Line, Of}
use Rattle.scp_draw_marks.specs.declared.topic.Kind.{Kind}
use Rattle.scp_draw_marks.specs.declared.topic.Kind.TheVariants as kind
use Rattle.scp_draw_marks.specs.declared.marks.Act.{Act}
use Rattle.scp_draw_marks.specs.declared.marks.Act.TheVariants as act
use Rattle.scp_draw_marks.specs.declared.marks.Mark.{Mark}
use Rattle.scp_draw_marks.specs.Topics.{same_slot}

-- ---- words of kinds

-- The class of a kind.
abbrev pub kind_word : Kind → List ℕ
kind_word kind.Nominate = codes "nominate"
kind_word kind.Prepare = codes "prepare"
kind_word kind.Confirm = codes "confirm"
kind_word kind.Externalize = codes "externalize"
kind_word kind.Records = codes "records"
kind_word kind.Sets = codes "sets"
kind_word kind.Commands = codes "commands"
kind_word kind.Decisions = codes "decisions"
kind_word kind.Links = codes "links"

-- The sign of what a node says.
abbrev pub said_sign : Kind → List ℕ
said_sign kind.Nominate = codes "N"
said_sign kind.Prepare = codes "P"
said_sign kind.Confirm = codes "C"
said_sign kind.Externalize = codes "E"
said_sign kind.Records = codes "R"
said_sign kind.Sets = codes "Q"
said_sign kind.Commands = codes "O"
said_sign kind.Decisions = codes "D"
said_sign kind.Links = codes "L"

-- The sign of what a node takes.
abbrev pub taken_sign : Kind → List ℕ
taken_sign kind.Nominate = codes "n"
taken_sign kind.Prepare = codes "p"
taken_sign kind.Confirm = codes "c"
taken_sign kind.Externalize = codes "e"
taken_sign kind.Records = codes "r"
taken_sign kind.Sets = codes "q"
taken_sign kind.Commands = codes "o"
taken_sign kind.Decisions = codes "d"
taken_sign kind.Links = codes "l"

-- ---- signs

-- The sign of a journal entry, if there is one.
abbrev pub entry_sign : Kind → Option Fate → List ℕ
entry_sign kind None = []
entry_sign kind (Some (fate.Taken conn seq message set verdict)) = taken_sign kind
entry_sign kind (Some (fate.Dropped conn seq cause)) = codes "x"
entry_sign kind (Some (fate.Closed conn cause)) = codes "/"

-- The sign of a fact. What is sent has none, nor what only came in.
abbrev pub sign_of : NodeView → Kind → Fact → List ℕ
sign_of v kind Full = codes "f"
sign_of v kind (Came conn bytes) = []
sign_of v kind (Given command) = []
sign_of v kind (Discarded conn) = codes "x"
sign_of v kind (Opened conn) = codes "+"
sign_of v kind (Parked conn seq why message) = codes "?"
sign_of v kind (Heard conn became message) = codes "q"
sign_of v kind Ticked = codes "t"
sign_of v kind (Missed hash misses) = codes "m"
sign_of v kind (Entered entry standing) = entry_sign kind (slice_get v.ledger.journal entry)
sign_of v kind (Obeyed fate command) = codes "!"
sign_of v kind (Says e) = said_sign kind
sign_of v kind (Decided place) = codes "D"
sign_of v kind (Applied place) = codes "A"
sign_of v kind (Answers link slot is_there) = codes "a"
sign_of v kind (Sent link bytes) = []

-- ---- statements that were never sent

-- The kind is that of a ballot statement.
abbrev pub is_ballot : Kind → Bool
is_ballot kind.Nominate = false
is_ballot kind.Prepare = true
is_ballot kind.Confirm = true
is_ballot kind.Externalize = true
is_ballot kind.Records = false
is_ballot kind.Sets = false
is_ballot kind.Commands = false
is_ballot kind.Decisions = false
is_ballot kind.Links = false

-- The kind is that of a nomination.
abbrev pub is_nomination : Kind → Bool
is_nomination kind.Nominate = true
is_nomination kind.Prepare = false
is_nomination kind.Confirm = false
is_nomination kind.Externalize = false
is_nomination kind.Records = false
is_nomination kind.Sets = false
is_nomination kind.Commands = false
is_nomination kind.Decisions = false
is_nomination kind.Links = false

-- Both kinds are nominations, or both are ballot statements.
abbrev pub same_voice : Kind → Kind → Bool
same_voice a b = (is_nomination a && is_nomination b) || (is_ballot a && is_ballot b)

-- Both marks are of the same node and slot, and both are of nominations or both of ballot statements. An outbox keeps only the newest
-- statement of each of these two.
abbrev pub goes_on : Mark → Mark → Bool
goes_on a b = (nat_eq a.node b.node && same_slot a.topic.slot b.topic.slot) && same_voice a.topic.kind b.topic.kind

-- Whether the statement is sent, from the next such mark on. It is sent if that mark sends, and not if that mark says something newer.
-- Otherwise the marks after it decide.
abbrev pub sent_or : Act → Bool → Bool
sent_or act.Says rest = false
sent_or act.Sends rest = true
sent_or act.Decides rest = rest
sent_or act.Else rest = rest

-- What the mark says is sent to some node before the node says something newer.
abbrev pub is_sent : Mark → List Mark → Bool
is_sent mark [] = false
is_sent mark (next ∷ later) = if goes_on mark next then sent_or next.act (is_sent mark later) else is_sent mark later

-- ---- decisions that differ

-- The node decides.
abbrev pub is_decision : Act → Bool
is_decision act.Says = false
is_decision act.Sends = false
is_decision act.Decides = true
is_decision act.Else = false

-- The mark is a decision of this slot.
abbrev pub decides : Option ℕ → Mark → Bool
decides slot mark = is_decision mark.act && same_slot mark.topic.slot slot

-- The value of a decision, if there is one.
abbrev pub value_of_decision : Option Decision → Option (List ℕ)
value_of_decision None = None
value_of_decision (Some d) = Some d.value

-- The value that a node, as it is now, decided in this fact.
abbrev pub value_of_fact : Option NodeView → Fact → Option (List ℕ)
value_of_fact None fact = None
value_of_fact (Some v) (Decided place) = value_of_decision (slice_get v.ledger.decisions place)
value_of_fact (Some v) fact = None

-- The value that was decided in this report, if any was.
abbrev pub value_of_telling : List NodeView → Option Telling → Option (List ℕ)
value_of_telling nodes None = None
value_of_telling nodes (Some (Line line)) = None
value_of_telling nodes (Some (Of told)) = value_of_fact (slice_get nodes (told.node - 1)) told.fact

-- The value that was decided at a mark, if any was.
abbrev pub value_at : List NodeView → List Telling → Mark → Option (List ℕ)
value_at nodes tellings mark = value_of_telling nodes (slice_get tellings mark.at)

-- Both values are there, and they differ.
abbrev pub are_other : Option (List ℕ) → Option (List ℕ) → Bool
are_other None b = false
are_other (Some a) None = false
are_other (Some a) (Some b) = not (pointwise nat_eq a b)

-- The value of the first of these decisions, if there is any.
abbrev pub first_value : List NodeView → List Telling → List Mark → Option (List ℕ)
first_value nodes tellings [] = None
first_value nodes tellings (mark ∷ marks) = value_at nodes tellings mark

-- The value of the mark isn't that of the slot's first decision.
abbrev pub is_against : List NodeView → List Telling → List Mark → Mark → Bool
is_against nodes tellings marks mark = are_other (first_value nodes tellings (filter (decides mark.topic.slot) marks)) (value_at nodes tellings mark)

-- ---- classes

-- The class of an entry with a conflicting statement. Without one, there is none.
abbrev pub conflict_class : Option Envelope → List ℕ
conflict_class None = []
conflict_class (Some e) = codes " conflict"

-- The class of a journal entry: what became of it.
abbrev pub entry_class : Option Envelope → Option Fate → List ℕ
entry_class standing None = codes "seen"
entry_class standing (Some (fate.Taken conn seq message set verdict)) = verdict_word verdict ++ conflict_class standing
entry_class standing (Some (fate.Dropped conn seq cause)) = codes "dropped"
entry_class standing (Some (fate.Closed conn cause)) = codes "closed"

-- The class of a statement that was said: whether it is sent.
abbrev pub says_class : Bool → List ℕ
says_class true = codes "says"
says_class false = codes "says unsent"

-- The class of a decision: whether it is against another one.
abbrev pub decided_class : Bool → List ℕ
decided_class true = codes "decided against"
decided_class false = codes "decided"

-- The class of a fact at a node as it is now: what became of it.
abbrev pub fact_class : NodeView → Bool → Bool → Fact → List ℕ
fact_class v sent against Full = codes "seen"
fact_class v sent against (Came conn bytes) = codes "seen"
fact_class v sent against (Given command) = codes "seen"
fact_class v sent against (Discarded conn) = codes "dropped"
fact_class v sent against (Opened conn) = codes "seen"
fact_class v sent against (Parked conn seq why message) = codes "parked"
fact_class v sent against (Heard conn became message) = codes "seen"
fact_class v sent against Ticked = codes "seen"
fact_class v sent against (Missed hash misses) = codes "seen"
fact_class v sent against (Entered entry standing) = entry_class standing (slice_get v.ledger.journal entry)
fact_class v sent against (Obeyed fate command) = fate_word fate
fact_class v sent against (Says e) = says_class sent
fact_class v sent against (Decided place) = decided_class against
fact_class v sent against (Applied place) = codes "seen"
fact_class v sent against (Answers link slot is_there) = codes "seen"
fact_class v sent against (Sent link bytes) = codes "seen"
