-- The page of a run (this project's profile). It has a section for what belongs to no slot, and one for each slot, in the order in which they
-- begin.
use Rattle.std.specs.Prelude.{ℕ, zero, suc, ◌+◌, Bool, ◌&&◌, ◌||◌, true, false, List, [], ◌∷◌, ◌++◌, Option, Some, None, codes, filter, flat_map, length, nat_le, if◌then◌else◌}
use Rattle.std.specs.Fmt.{decimal}
use Rattle.std.specs.List.{list_any}
use Rattle.scp_trace.specs.scp_core.specs.Kv.{NodeView}
use Rattle.scp_trace.specs.scp_stand_slot.specs.declared.names.Names.{Names}
use Rattle.scp_trace.specs.scp_facts.specs.declared.fact.Telling.{Telling}
use Rattle.scp_draw_marks.specs.Pieces.{escaped, down_text, letters_text}
use Rattle.scp_draw_marks.specs.declared.marks.Mark.{Mark}
use Rattle.scp_draw_marks.specs.declared.marks.Pen.{Pen}
use Rattle.scp_draw_marks.specs.Topics.{same_slot}
use Rattle.scp_draw_marks.specs.Places.{DrawingView, drawn}
use Rattle.scp_draw_marks.specs.Looks.{decides, is_against}
use Rattle.scp_draw.specs.Elements.{column, element}
use Rattle.scp_draw.specs.Frame.{head, legend, stands_head, tail}

-- ---- for each node

-- the texts of the nodes from 1 to this number, one after the other
abbrev pub for_nodes : (ℕ → List ℕ) → ℕ → List ℕ
for_nodes text zero = []
for_nodes text (suc before) = for_nodes text before ++ text (before + 1)

-- the box that hides or shows a node
abbrev pub box_text : ℕ → List ℕ
box_text number = codes "<label><input type='checkbox' checked id='n" ++ decimal number ++ codes "'>" ++ codes "node " ++ decimal number ++ codes "</label>\n"

-- the node's number above its column
abbrev pub label_text : ℕ → List ℕ
label_text number = letters_text (codes "h") (column number) 0 (decimal number)

-- the line down a column
abbrev pub stem_text : ℕ → List ℕ
stem_text number = down_text (codes "l") (column number)

-- ---- a section

-- the elements of a section's marks, in their order, among all marks
abbrev pub elements_of : Names → List NodeView → List Telling → List Mark → Option ℕ → List Mark → List ℕ
elements_of names nodes tellings marks slot [] = []
elements_of names nodes tellings marks slot (mark ∷ later) = (if same_slot mark.topic.slot slot then element names nodes tellings marks later mark else []) ++ elements_of names nodes tellings marks slot later

-- the number of marks of nodes that decided the slot
abbrev pub decided_count : Option ℕ → List Mark → ℕ
decided_count slot marks = length (filter (decides slot) marks)

-- the words for a slot, and for how many of the nodes decided it
abbrev pub slot_heading : ℕ → ℕ → ℕ → List ℕ
slot_heading slot decided count = codes "Slot " ++ decimal slot ++ codes ", decided by " ++ decimal decided ++ codes " of " ++ decimal count ++ codes " nodes"

-- The mark is a decision of the slot, and its value isn't that of the slot's first decision.
abbrev pub splits : List NodeView → List Telling → List Mark → Option ℕ → Mark → Bool
splits nodes tellings marks slot mark = same_slot mark.topic.slot slot && is_against nodes tellings marks mark

-- nodes decided the slot differently
abbrev pub is_split : List NodeView → List Telling → List Mark → Option ℕ → Bool
is_split nodes tellings marks slot = list_any (splits nodes tellings marks slot) marks

-- the word for a slot that nodes decided differently
abbrev pub split_text : Bool → List ℕ
split_text true = codes ", split"
split_text false = []

-- the heading of a section
abbrev pub heading : ℕ → Bool → List Mark → Option ℕ → List ℕ
heading count split marks None = codes "Links, quorum sets and time"
heading count split marks (Some slot) = slot_heading slot (decided_count (Some slot) marks) count ++ split_text split

-- the slot if there is one, else the other
abbrev pub or_slot : Option ℕ → Option ℕ → Option ℕ
or_slot None other = other
or_slot (Some slot) other = Some slot

-- the first slot that has a section
abbrev pub first_slot : List Pen → Option ℕ
first_slot [] = None
first_slot (pen ∷ pens) = or_slot pen.slot (first_slot pens)

-- A section is open at first if there are few, or if it is the first slot's.
abbrev pub is_open : List Pen → Pen → Bool
is_open pens pen = nat_le (length pens) 3 || same_slot pen.slot (first_slot pens)

-- The section of a slot is open at first if it is to be; that of no slot isn't.
abbrev pub open_text : Bool → Option ℕ → List ℕ
open_text opened None = []
open_text false (Some slot) = []
open_text true (Some slot) = codes " open"

-- A picture of this number of columns is as wide as the page if so many hundredths of its width are.
abbrev pub room : ℕ → ℕ
room count = column count + 20

-- the size of a picture with this number of columns and rows
abbrev pub room_text : ℕ → ℕ → List ℕ
room_text count rows = codes "<svg style='width:calc(10000% / " ++ decimal (room count) ++ codes ");" ++ codes "height:calc(" ++ decimal rows ++ codes "em + 64px)'>"

-- the text before the elements of a section
abbrev pub section_front : ℕ → Bool → Bool → List Mark → Pen → List ℕ
section_front count opened split marks pen =
    codes "<details" ++ open_text opened pen.slot ++ codes "><summary>" ++ heading count split marks pen.slot ++ codes "</summary>\n"
    ++ room_text count pen.floor ++ codes "<g transform='translate(0 24)'>" ++ for_nodes label_text count ++ codes "</g><g transform='translate(0 48)'>" ++ for_nodes stem_text count ++ codes "\n"

-- a section with the elements of its facts; `count` is the number of nodes
abbrev pub section_text : Names → List NodeView → List Telling → ℕ → Bool → List Mark → Pen → List ℕ
section_text names nodes tellings count opened marks pen = section_front count opened (is_split nodes tellings marks pen.slot) marks pen ++ (elements_of names nodes tellings marks pen.slot marks ++ codes "</g></svg></details>\n")

-- a section among all of these
abbrev pub section_in : Names → List NodeView → List Telling → ℕ → List Mark → List Pen → Pen → List ℕ
section_in names nodes tellings count marks pens pen = section_text names nodes tellings count (is_open pens pen) marks pen

-- ---- the page

-- the page of a picture, with where the nodes stand at the end
abbrev pub drawn_page : Names → List NodeView → List Telling → ℕ → List ℕ → DrawingView → List ℕ
drawn_page names nodes tellings count ending d =
    head ++ (for_nodes box_text count ++ (legend ++ (flat_map (section_in names nodes tellings count d.marks d.pens) d.pens ++ (stands_head ++ (escaped ending ++ tail)))))

-- the page of all that is shown of these nodes, as they are at the end; `count` is the number of nodes
abbrev pub page_text : Names → List NodeView → List Telling → ℕ → List ℕ → List ℕ
page_text names nodes tellings count ending = drawn_page names nodes tellings count ending (drawn nodes tellings)
