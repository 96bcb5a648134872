-- The outcome of a run of a script, at the nodes that are judged (this project's profile).
use Rattle.std.specs.Prelude.{ℕ, ◌+◌, ◌≡◌, ◌<◌, Bool, true, false, Option, Some, None, List, [], ◌∷◌, ◌++◌, codes, filter, get_or, length, min, nat_le, nat_lt, if◌then◌else◌}
use Rattle.std.specs.List.{list_any}
use Rattle.std.specs.Fmt.{decimal}
use Rattle.scp_notices.specs.scp_core.specs.Kv.{NodeView}
use Rattle.scp_notices.specs.scp_turn.specs.Heard.{Nodes}
use Rattle.scp_notices.specs.declared.notice.Notice.{Notice}
use Rattle.scp_notices.specs.declared.notice.Notice.TheVariants.{Unsettled, GaveUp, Disagree, Ignored, Overwritten, NoWait}
use Rattle.scp_notices.specs.declared.notice.Side.{Side}
use Rattle.scp_notices.specs.Texts.{notices_text}
use Rattle.scp_sim_findings.specs.declared.outcome.Finding.{Finding}
use Rattle.scp_sim_findings.specs.declared.outcome.Finding.TheVariants.{Split, Stuck, Cut}
use Rattle.scp_sim_findings.specs.Fates.{count_of, fates_text}

-- The nodes that are judged. There is a mark for each node, in their order.
abbrev pub judged_of : List Bool → Nodes → Nodes
judged_of [] nodes = []
judged_of (mark ∷ marks) [] = []
judged_of (mark ∷ marks) (node ∷ nodes) = if mark then node ∷ judged_of marks nodes else judged_of marks nodes

-- How many slots a node applied. These are the slots from 1 up to this number.
abbrev pub applied_by : NodeView → ℕ
applied_by node = length node.applier.applied

-- How many slots all of these nodes applied, at most `slots`.
abbrev pub closed_by : ℕ → Nodes → ℕ
closed_by slots [] = slots
closed_by slots (node ∷ nodes) = min (applied_by node) (closed_by slots nodes)

-- The node with this number is judged.
abbrev pub is_judged : List Bool → ℕ → Bool
is_judged marks number = get_or (false ∷ marks) number false

-- A judged node is on this side.
abbrev pub has_judged : List Bool → Side → Bool
has_judged marks side = list_any (is_judged marks) side.nodes

-- The notice says that judged nodes applied different values for a slot.
abbrev pub is_split : List Bool → Notice → Bool
is_split marks (Disagree slot sides) = nat_le 2 (length (filter (has_judged marks) sides))
is_split marks (Unsettled line rounds) = false
is_split marks (GaveUp line) = false
is_split marks (Ignored line why) = false
is_split marks (Overwritten node peer count) = false
is_split marks NoWait = false

-- How many connections to these nodes were cut: they ended for another reason than that their link was closed.
abbrev pub cut_of : Nodes → ℕ
cut_of nodes = count_of 17 nodes + count_of 18 nodes + count_of 19 nodes

-- Something that can be found in a run. `Split`: judged nodes applied different values for a slot. `Stuck`: a judged node applied fewer
-- slots than planned. `Cut`: a connection to a judged node was cut.
abbrev pub IsFound : Finding → List Bool → ℕ → Nodes → List Notice → Type 0
IsFound Split marks slots nodes notices = list_any (is_split marks) notices ≡ true
IsFound Stuck marks slots nodes notices = closed_by slots (judged_of marks nodes) < slots
IsFound Cut marks slots nodes notices = 0 < cut_of (judged_of marks nodes)

-- The first finding is worse than the second. `Split` is worse than `Stuck`, and `Stuck` is worse than `Cut`.
abbrev pub IsWorse : Finding → Finding → Type 0
IsWorse Split Split = ⊥
IsWorse Split Stuck = Unit {0}
IsWorse Split Cut = Unit {0}
IsWorse Stuck Split = ⊥
IsWorse Stuck Stuck = ⊥
IsWorse Stuck Cut = Unit {0}
IsWorse Cut Split = ⊥
IsWorse Cut Stuck = ⊥
IsWorse Cut Cut = ⊥

-- The worst finding of a run: it is found, and nothing worse is. No finding means that nothing is found.
abbrev pub IsWorst : Option Finding → List Bool → ℕ → Nodes → List Notice → Type 0
IsWorst (Some finding) marks slots nodes notices = IsFound finding marks slots nodes notices × ((worse : Finding) → IsWorse worse finding → ¬ (IsFound worse marks slots nodes notices))
IsWorst None marks slots nodes notices = (finding : Finding) → ¬ (IsFound finding marks slots nodes notices)

-- The line of a node that applied fewer slots than planned. Any other node has none.
abbrev pub stuck_line : ℕ → ℕ → NodeView → List ℕ
stuck_line slots number node = if nat_lt (applied_by node) slots then codes "stuck " ++ decimal number ++ codes " at " ++ decimal (applied_by node) ++ codes "\n" else []

-- These lines for the judged nodes among these. The first node has this number.
abbrev pub stuck_lines : ℕ → ℕ → List Bool → Nodes → List ℕ
stuck_lines slots number [] nodes = []
stuck_lines slots number (mark ∷ marks) [] = []
stuck_lines slots number (mark ∷ marks) (node ∷ nodes) = (if mark then stuck_line slots number node else []) ++ stuck_lines slots (number + 1) marks nodes

-- The outcome of a run. It says how many slots all judged nodes applied, and for which slots judged nodes applied different values. It
-- says which judged nodes applied fewer slots, and what became of messages and connections at the judged nodes.
abbrev pub outcome_text : List Bool → ℕ → Nodes → List Notice → List ℕ
outcome_text marks slots nodes notices =
    codes "closed "
    ++ decimal (closed_by slots (judged_of marks nodes))
    ++ codes " of "
    ++ decimal slots
    ++ codes "\n"
    ++ (notices_text (filter (is_split marks) notices)
    ++ (stuck_lines slots 1 marks nodes
    ++ fates_text (judged_of marks nodes)))
