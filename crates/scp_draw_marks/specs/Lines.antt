-- Where a statement was said, and where it was taken (this project's profile).
use Rattle.std.specs.Prelude.{ℕ, ◌-◌, ◌&&◌, Bool, false, List, [], ◌∷◌, Option, Some, None, get_or, min, nat_eq, slice_get, if◌then◌else◌}
use Rattle.std.specs.List.{list_any}
use Rattle.scp_words.specs.scp_types.specs.declared.names.ConnId.{ConnId}
use Rattle.scp_words.specs.scp_envelope.specs.declared.statement.Statement.{Statement}
use Rattle.scp_words.specs.scp_wire.specs.declared.message.Message.{Message}
use Rattle.scp_words.specs.scp_wire.specs.declared.message.Message.TheVariants.{Envelope}
use Rattle.scp_words.specs.scp_ledger.specs.declared.journal.Fate.{Fate}
use Rattle.scp_words.specs.scp_ledger.specs.declared.journal.Fate.TheVariants as fate
use Rattle.scp_facts.specs.scp_core.specs.Kv.{NodeView}
use Rattle.scp_facts.specs.Standing.{same_statement}
use Rattle.scp_facts.specs.declared.fact.Fact.{Fact}
use Rattle.scp_facts.specs.declared.fact.Fact.TheVariants.{Parked, Entered, Says}
use Rattle.scp_facts.specs.declared.fact.Telling.{Telling}
use Rattle.scp_facts.specs.declared.fact.Telling.TheVariants.{Line, Of}
use Rattle.scp_draw_marks.specs.declared.marks.Mark.{Mark}
use Rattle.scp_draw_marks.specs.Topics.{came_by}

-- ---- what is said

-- The statement that a fact says, if it says one.
abbrev pub said_in : Fact → Option Statement
said_in (Says e) = Some e.statement
said_in fact = None

-- The statement that was said in a report, if one was.
abbrev pub said_by : Option Telling → Option Statement
said_by None = None
said_by (Some (Line line)) = None
said_by (Some (Of told)) = said_in told.fact

-- The same of a mark.
abbrev pub said_at : List Telling → Mark → Option Statement
said_at tellings mark = said_by (slice_get tellings mark.at)

-- ---- what is taken

-- The statement of a message, if it is one.
abbrev pub statement_in : Message → Option Statement
statement_in (Envelope e) = Some e.value.statement
statement_in message = None

-- The statement of a message that was taken, if it was one.
abbrev pub statement_of : Option Fate → Option Statement
statement_of None = None
statement_of (Some (fate.Taken conn seq message set verdict)) = statement_in message
statement_of (Some (fate.Dropped conn seq cause)) = None
statement_of (Some (fate.Closed conn cause)) = None

-- The statement that a node takes in a fact, or that waits since, if it is one.
abbrev pub taken_in : NodeView → Fact → Option Statement
taken_in v (Parked conn seq why message) = statement_in message
taken_in v (Entered entry standing) = statement_of (slice_get v.ledger.journal entry)
taken_in v fact = None

-- The same of a node, if it is there.
abbrev pub taken_of : Option NodeView → Fact → Option Statement
taken_of None fact = None
taken_of (Some v) fact = taken_in v fact

-- The statement that is taken in a report, if it is one.
abbrev pub taken_by : List NodeView → Option Telling → Option Statement
taken_by nodes None = None
taken_by nodes (Some (Line line)) = None
taken_by nodes (Some (Of told)) = taken_of (slice_get nodes (told.node - 1)) told.fact

-- The same of a mark.
abbrev pub taken_at : List NodeView → List Telling → Mark → Option Statement
taken_at nodes tellings mark = taken_by nodes (slice_get tellings mark.at)

-- ---- both

-- Both statements are there, and one node says the same of one slot in both.
unfoldable pub are_same : Option Statement → Option Statement → Bool
are_same None t = false
are_same (Some s) None = false
are_same (Some s) (Some t) = same_statement s t

-- What the mark says is what a node takes at the other mark.
abbrev pub takes_it : List NodeView → List Telling → Mark → Mark → Bool
takes_it nodes tellings mark other = are_same (said_at tellings mark) (taken_at nodes tellings other)

-- What the mark says is taken by a node at one of these marks.
abbrev pub is_taken : List NodeView → List Telling → Mark → List Mark → Bool
is_taken nodes tellings mark later = list_any (takes_it nodes tellings mark) later

-- ---- where a message's line begins

-- The number of the node that sent a message, from the first byte of its id.
abbrev pub sender_in : Option (ConnId × ℕ) → ℕ
sender_in None = 0
sender_in (Some place) = get_or place.0.from.0 0 0

-- The number of the node that sent the message of a fact, or 0.
abbrev pub sender_of : Option NodeView → Fact → ℕ
sender_of None fact = 0
sender_of (Some v) fact = sender_in (came_by v fact)

-- The same of a report.
abbrev pub sender_by : List NodeView → Option Telling → ℕ
sender_by nodes None = 0
sender_by nodes (Some (Line line)) = 0
sender_by nodes (Some (Of told)) = sender_of (slice_get nodes (told.node - 1)) told.fact

-- The same of a mark.
abbrev pub sender_at : List NodeView → List Telling → Mark → ℕ
sender_at nodes tellings mark = sender_by nodes (slice_get tellings mark.at)

-- The node of this number says the statement at the mark.
abbrev pub says_it : List Telling → ℕ → Option Statement → Mark → Bool
says_it tellings sender statement mark = nat_eq mark.node sender && are_same (said_at tellings mark) statement

-- The row of the first of these marks at which the node of this number says the statement.
abbrev pub row_said : List Telling → ℕ → Option Statement → List Mark → Option ℕ
row_said tellings sender statement [] = None
row_said tellings sender statement (mark ∷ marks) =
    if says_it tellings sender statement mark then Some mark.row else row_said tellings sender statement marks

-- The row in which a line begins: that in which its message came, or the one above in which the message was said.
abbrev pub begins_in : Option ℕ → Option ℕ → Option ℕ
begins_in None said = None
begins_in (Some from) None = Some from
begins_in (Some from) (Some said) = Some (min from said)

-- The row in which the line of a mark's message begins, among all marks.
abbrev pub start_of : List NodeView → List Telling → List Mark → Mark → Option ℕ
start_of nodes tellings marks mark = begins_in mark.from (row_said tellings (sender_at nodes tellings mark) (taken_at nodes tellings mark) marks)
