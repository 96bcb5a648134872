-- The elements of facts in the picture of a run (this project's profile). Each fact that a trace shows has one, in the column of its node.
use Rattle.std.specs.Prelude.{ℕ, ◌+◌, ◌-◌, ◌*◌, ◌||◌, Bool, List, [], ◌∷◌, ◌++◌, Option, Some, None, codes, flat_map, get_or, nat_lt, slice_get, if◌then◌else◌}
use Rattle.std.specs.Fmt.{decimal}
use Rattle.scp_trace.specs.scp_types.specs.declared.names.ConnId.{ConnId}
use Rattle.scp_trace.specs.scp_types.specs.declared.names.NodeId.{NodeId}
use Rattle.scp_trace.specs.scp_ledger.specs.declared.journal.Decision.{Decision}
use Rattle.scp_trace.specs.scp_ledger.specs.declared.journal.Origin.{Origin}
use Rattle.scp_trace.specs.scp_ledger.specs.declared.journal.Origin.TheVariants.{Machine, Named}
use Rattle.scp_trace.specs.scp_core.specs.History.{peer_at}
use Rattle.scp_trace.specs.scp_core.specs.Kv.{NodeView}
use Rattle.scp_trace.specs.scp_stand_slot.specs.declared.names.Names.{Names}
use Rattle.scp_trace.specs.scp_facts.specs.declared.fact.Fact.{Fact}
use Rattle.scp_trace.specs.scp_facts.specs.declared.fact.Fact.TheVariants.{Says, Decided, Sent}
use Rattle.scp_trace.specs.scp_facts.specs.declared.fact.Told.{Told}
use Rattle.scp_trace.specs.scp_facts.specs.declared.fact.Telling.{Telling}
use Rattle.scp_trace.specs.scp_facts.specs.declared.fact.Telling.TheVariants.{Line, Of}
use Rattle.scp_trace.specs.scp_trace_text.specs.Facts.{told_line}
use Rattle.scp_draw_marks.specs.Pieces.{escaped, line_text, across_text, bar_text, ring_text, letters_text}
use Rattle.scp_draw_marks.specs.declared.marks.Mark.{Mark}
use Rattle.scp_draw_marks.specs.Topics.{came_by}
use Rattle.scp_draw_marks.specs.Looks.{kind_word, sign_of, is_sent, is_against, fact_class}
use Rattle.scp_draw_marks.specs.Lines.{is_taken, start_of}

-- ---- columns

-- the place of the column of the node of this number
abbrev pub column : ℕ → ℕ
column number = 20 * number

-- The number of a node of a script, from its id, each of whose bytes is that number.
abbrev pub number_of : NodeId → ℕ
number_of id = get_or id.0 0 0

-- the place next to the sign in the column of a node, on the side of another node
abbrev pub beside : ℕ → ℕ → ℕ
beside number other = if nat_lt number other then column number + 1 else column number - 1

-- the place further toward the column of another node
abbrev pub toward : ℕ → ℕ → ℕ
toward number other = if nat_lt number other then column number + 4 else column number - 4

-- ---- shapes

-- If the fact is the first of its line in this section, the number of the line is at the edge.
abbrev pub rule_text : Mark → List ℕ
rule_text mark = if mark.begins then across_text (codes "s") 2 mark.row ++ letters_text (codes "s") 2 mark.row (decimal mark.line) else []

-- From this statement on, the node's column has the colour of the statement's kind.
abbrev pub bar_of : Mark → Fact → List ℕ
bar_of mark (Says e) = bar_text (codes "b") (column mark.node) mark.row
bar_of mark fact = []

-- an arrow from the node that sent the message, in the row in which it begins, to this node
abbrev pub arrow_from : Mark → Option ℕ → Option (ConnId × ℕ) → List ℕ
arrow_from mark None place = []
arrow_from mark (Some row) None = []
arrow_from mark (Some row) (Some place) = line_text (codes "a") (column (number_of place.0.from)) row (column mark.node) mark.row

-- a stroke at this row from the sign of a node toward another one
abbrev pub stroke_to : Mark → ℕ → List ℕ
stroke_to mark other = line_text (codes "o") (beside mark.node other) mark.row (toward mark.node other) mark.row

-- a stroke for what is sent, toward the column of the receiver
abbrev pub stroke_of : NodeView → Mark → Fact → List ℕ
stroke_of v mark (Sent link bytes) = stroke_to mark (number_of (peer_at v.config link))
stroke_of v mark fact = []

-- a ring around the column of a node
abbrev pub ring_at : ℕ → NodeId → List ℕ
ring_at row id = ring_text (codes "q") (column (number_of id)) row

-- rings around the members of the quorum that a decision rests on
abbrev pub rings_of_origin : ℕ → Origin → List ℕ
rings_of_origin row (Machine n quorum own) = flat_map (ring_at row) quorum
rings_of_origin row (Named conn seq) = []

-- the same for a decision, if there is one
abbrev pub rings_of_decision : ℕ → Option Decision → List ℕ
rings_of_decision row None = []
rings_of_decision row (Some d) = rings_of_origin row d.origin

-- the quorum of a decision, which is shown when somebody points at the fact
abbrev pub rings_of : NodeView → Mark → Fact → List ℕ
rings_of v mark (Decided place) = rings_of_decision mark.row (slice_get v.ledger.decisions place)
rings_of v mark fact = []

-- the sign of the fact, if it has one
abbrev pub sign_text : Mark → List ℕ → List ℕ
sign_text mark [] = []
sign_text mark (byte ∷ bytes) = letters_text (codes "f") (column mark.node) mark.row (byte ∷ bytes)

-- ---- an element

-- the class of the node that sent the message
abbrev pub sender_class : Option (ConnId × ℕ) → List ℕ
sender_class None = []
sender_class (Some place) = codes " m" ++ decimal (number_of place.0.from)

-- The beginning of an element. Its classes are the node, the kind, what became of the message, and its sender.
abbrev pub front_text : NodeView → Mark → Bool → Bool → Fact → List ℕ
front_text v mark sent against fact =
    codes "<g class='n" ++ decimal mark.node ++ codes " k" ++ kind_word mark.topic.kind ++ codes " " ++ fact_class v sent against fact ++ sender_class (came_by v fact) ++ codes "'><title>"

-- the text shown when somebody points at the element: the line of the script, and the lines of the trace
abbrev pub title_text : Names → NodeView → Mark → Told → List ℕ
title_text names v mark told = codes "line " ++ decimal mark.line ++ codes "\n" ++ told_line names mark.line (Some v) [] told

-- the shapes of an element
abbrev pub shapes_text : NodeView → Mark → Option ℕ → Fact → List ℕ
shapes_text v mark start fact = rule_text mark ++ bar_of mark fact ++ arrow_from mark start (came_by v fact) ++ stroke_of v mark fact ++ rings_of v mark fact ++ sign_text mark (sign_of v mark.topic.kind fact)

-- the end of an element
abbrev pub back_text : NodeView → Mark → Option ℕ → Fact → List ℕ
back_text v mark start fact = codes "</title>" ++ shapes_text v mark start fact ++ codes "</g>\n"

-- the element of a fact of this node
abbrev pub fact_element : Names → NodeView → Mark → Bool → Bool → Option ℕ → Told → List ℕ
fact_element names v mark sent against start told = front_text v mark sent against told.fact ++ (escaped (title_text names v mark told) ++ back_text v mark start told.fact)

-- the same, if its node exists
abbrev pub told_element : Names → Option NodeView → Mark → Bool → Bool → Option ℕ → Told → List ℕ
told_element names None mark sent against start told = []
told_element names (Some v) mark sent against start told = fact_element names v mark sent against start told

-- the element of what is shown at this place, if it is a fact
abbrev pub telling_element : Names → List NodeView → Option Telling → Mark → Bool → Bool → Option ℕ → List ℕ
telling_element names nodes None mark sent against start = []
telling_element names nodes (Some (Line line)) mark sent against start = []
telling_element names nodes (Some (Of told)) mark sent against start = told_element names (slice_get nodes (told.node - 1)) mark sent against start told

-- What the mark says is sent before the node says something newer, or the script sends it and a node takes it.
abbrev pub reaches : List NodeView → List Telling → Mark → List Mark → Bool
reaches nodes tellings mark later = is_sent mark later || is_taken nodes tellings mark later

-- the element of a mark, among all marks and before these later ones, from the nodes and from all that is shown
abbrev pub element : Names → List NodeView → List Telling → List Mark → List Mark → Mark → List ℕ
element names nodes tellings marks later mark = telling_element names nodes (slice_get tellings mark.at) mark (reaches nodes tellings mark later) (is_against nodes tellings marks mark) (start_of nodes tellings marks mark)
