-- The warnings of a script (this project's profile): by its lines, in their order, and then as a whole.
use Rattle.std.specs.Prelude.{◌≡◌, ◌≤◌, ℕ, ◌+◌, ◌-◌, Bool, not, ◌&&◌, List, [], ◌∷◌, ◌++◌, map, flat_map, length, min, count_by, get_or, Option, Some, None, option_to_list, slice_get, Result, Ok, Err, if◌then◌else◌, nat_eq}
use Rattle.std.specs.List.{list_any}
use Rattle.std.specs.Cmp.Lexicographic.{pointwise}
use Rattle.scp_nominate.specs.scp_types.specs.declared.names.NodeId.{NodeId}
use Rattle.scp_nominate.specs.scp_types.specs.declared.fault.Fault.{Fault}
use Rattle.scp_nominate.specs.scp_types.specs.declared.fault.Fault.TheVariants as faults
use Rattle.scp_nominate.specs.scp_driver.specs.Kv.{leader_place}
use Rattle.scp_nominate.specs.Turns.{AreInTurn}
use Rattle.scp_script.specs.scp_wire.specs.Message.{message_reading}
use Rattle.scp_script.specs.declared.command.Command.{Command}
use Rattle.scp_script.specs.declared.command.Command.TheVariants.{Send, Propose}
use Rattle.scp_script.specs.Script.{node_count, opens}
use Rattle.scp_script.specs.Nodes.{numbers, id_of, set_at}
use Rattle.scp_script_check.specs.Nodes.{speaks_in, is_scripted_in, sends_on, reports, settles_them, acts_on, is_list, proposes_for, proposes_at, is_round}
use Rattle.scp_script_check.specs.declared.warning.Warning.{Warning}
use Rattle.scp_script_check.specs.declared.warning.Warning.TheVariants.{Malformed, TooLong, Driven, BadValue, Unled, Unsettled, Unopened, Unreported}

-- ---- who leads

-- for each node, the nodes that lead in turn as it sees them; those of node 1 come first
abbrev pub Turns : Type 0
Turns = List (List NodeId)

-- the nodes that lead in turn as the node with this number sees them
abbrev pub turn_of : Turns → ℕ → List NodeId
turn_of turns node = get_or turns (node - 1) []

-- there is an entry for each node: the node itself and the nodes of its quorum set
pub record AreTurns (commands : List Command) (turns : Turns) : Type 0 where
  pub each : length turns ≡ node_count commands
  pub turn : (node : ℕ) → 1 ≤ node → node ≤ node_count commands → AreInTurn (id_of node) (set_at node commands) (turn_of turns node)

-- both ids are the same
abbrev pub is_same : NodeId → NodeId → Bool
is_same a b = pointwise nat_eq a.0 b.0

-- the leader of a round of a slot among these nodes; if there are none, an id that no node has
abbrev pub leader_of : List NodeId → ℕ → ℕ → NodeId
leader_of nodes slot round = get_or nodes (leader_place slot round (length nodes)) (id_of 0)

-- the node leads one of the first `rounds` rounds of the slot
abbrev pub leads_in : List NodeId → ℕ → ℕ → NodeId → Bool
leads_in nodes slot rounds node = list_any (λ round. is_same (leader_of nodes slot round) node) (numbers rounds)

-- how many rounds the `round` lines of a node and a slot reach: one more than these lines, at most as many as there are nodes
abbrev pub rounds_in : List Command → List NodeId → ℕ → ℕ → ℕ
rounds_in commands nodes node slot = min (count_by (is_round node slot) commands + 1) (length nodes)

-- the node proposes an operation list for the slot, and leads it in one of the rounds that its `round` lines reach
abbrev pub leads_own : List NodeId → List Command → ℕ → ℕ → Bool
leads_own nodes commands slot node = list_any (proposes_at node slot) commands && leads_in nodes slot (rounds_in commands nodes node slot) (id_of node)

-- one of the nodes that propose an operation list for the slot leads it in such a round
abbrev pub is_led : Turns → List Command → ℕ → Bool
is_led turns commands slot = list_any (λ node. leads_own (turn_of turns node) commands slot node) (numbers (node_count commands))

-- ---- by lines

-- the warning of the bytes of a `send`, if they encode no message
abbrev pub bytes_warning : {A : Type 0} → ℕ → Result A Fault → List Warning
bytes_warning line (Ok message) = []
bytes_warning line (Err (faults.Malformed place)) = Malformed line place ∷ []
bytes_warning line (Err fault) = TooLong line ∷ []

-- the warning of the first `send` on a link whose sender speaks
abbrev pub link_warning : List Command → List Command → ℕ → ℕ → ℕ → List Warning
link_warning commands before line from to = if not (list_any (sends_on from to) before) && speaks_in from commands then Driven line from to ∷ [] else []

-- the warning of the first proposal of an operation list for a slot that none of its proposers leads
abbrev pub slot_warning : Turns → List Command → List Command → ℕ → ℕ → ℕ → List Warning
slot_warning turns commands before line node slot =
    if not (list_any (proposes_for slot) before) && not (is_led turns commands slot) then Unled line slot (leader_of (turn_of turns node) slot 1) ∷ [] else []

-- The warnings of one line. For a `send` they are of its bytes and its link, for a `propose` of its value or its slot. Other lines have
-- none.
abbrev pub command_warnings : Turns → List Command → List Command → ℕ → Command → List Warning
command_warnings turns commands before line (Send from to bytes) = bytes_warning line (message_reading bytes) ++ link_warning commands before line from to
command_warnings turns commands before line (Propose node slot value) = if is_list value then slot_warning turns commands before line node slot else BadValue line ∷ []
command_warnings turns commands before line command = []

-- the warnings of each of these commands, in the lines with these numbers, after the commands before them
abbrev pub line_warnings : Turns → List Command → List Command → List ℕ → List Command → List Warning
line_warnings turns commands before [] others = []
line_warnings turns commands before (line ∷ lines) [] = []
line_warnings turns commands before (line ∷ lines) (command ∷ others) = command_warnings turns commands before line command ++ line_warnings turns commands (before ++ command ∷ []) lines others

-- the place of the first of these commands that acts without a later command that brings the nodes to rest; the first command has the
-- place given
abbrev pub rest_place : ℕ → List Command → Option ℕ
rest_place place [] = None
rest_place place (command ∷ others) = if acts_on command && not (list_any settles_them others) then Some place else rest_place (place + 1) others

-- the warning of the line at this place, from 0 on, if there is one
abbrev pub unsettled_at : List ℕ → Option ℕ → List Warning
unsettled_at lines None = []
unsettled_at lines (Some place) = map Unsettled (option_to_list (slice_get lines place))

-- the warning of the first line that acts after the last command that brings the nodes to rest
abbrev pub rest_warning : List ℕ → List Command → List Warning
rest_warning lines commands = unsettled_at lines (rest_place 0 commands)

-- ---- as a whole

-- the node is among these
abbrev pub has_node : List NodeId → NodeId → Bool
has_node nodes node = list_any (λ n. is_same n node) nodes

-- The link is missing: its sender speaks, the receiver has the sender in its quorum set, and no line opens the link. Nor does the script
-- alone speak for the receiver.
abbrev pub is_unopened : Turns → List Command → ℕ → ℕ → Bool
is_unopened turns commands from to =
    not (nat_eq from to) && (speaks_in from commands && (has_node (turn_of turns to) (id_of from) && (not (is_scripted_in to commands) && not (list_any (opens from to) commands))))

-- the warning of a link that is missing, if it is
abbrev pub unopened_from : Turns → List Command → ℕ → ℕ → List Warning
unopened_from turns commands from to = if is_unopened turns commands from to then Unopened from to ∷ [] else []

-- the warnings of the links that are missing, ordered by their senders and then by their receivers
abbrev pub unopened : Turns → List Command → List Warning
unopened turns commands = flat_map (λ from. flat_map (unopened_from turns commands from) (numbers (node_count commands))) (numbers (node_count commands))

-- the warning that no report is asked for, if none is
abbrev pub report_warning : List Command → List Warning
report_warning commands = if list_any reports commands then [] else Unreported ∷ []

-- All warnings: of the lines, in their order; then of where the nodes don't come to rest; of the links that are missing; and that no
-- report is asked for.
abbrev pub warnings_by : Turns → List Command → List ℕ → List Warning
warnings_by turns commands lines =
    line_warnings turns commands [] lines commands ++ (rest_warning lines commands ++ (unopened turns commands ++ report_warning commands))

-- these are the warnings of a script of these commands, in the lines with these numbers
abbrev pub AreWarnings : List Command → List ℕ → List Warning → Type 0
AreWarnings commands lines found = (turns : Turns) × AreTurns commands turns × (found ≡ warnings_by turns commands lines)
