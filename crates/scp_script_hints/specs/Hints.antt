-- The hints on a script (this project's profile): by its lines, in their order, and then by the quorums of its nodes.
use Rattle.std.specs.Prelude.{◌≡◌, ◌⊎◌, ℕ, Bool, false, not, ◌&&◌, ◌||◌, List, [], ◌∷◌, ◌++◌, map, filter, if◌then◌else◌, nat_eq, nat_lt}
use Rattle.std.specs.List.{list_any}
use Rattle.std.specs.Cmp.Lexicographic.{pointwise}
use Rattle.std.specs.BTreeSet.{BTreeSet}
use Rattle.scp_script.specs.scp_types.specs.declared.limits.TheConstants.{WINDOW}
use Rattle.scp_script.specs.scp_types.specs.declared.names.NodeId.{NodeId}
use Rattle.scp_script.specs.scp_quorum.specs.NodeSet.{is_in}
use Rattle.scp_script.specs.scp_quorum.specs.Satisfies.{AreDisjoint}
use Rattle.scp_script.specs.scp_quorum.specs.Sane.{all_nodes}
use Rattle.scp_script.specs.declared.command.Command.{Command}
use Rattle.scp_script.specs.declared.command.Command.TheVariants.{Set, Open, Send, Propose, Round, Timer, Tick, Ask}
use Rattle.scp_script.specs.Script.{node_count, is_link}
use Rattle.scp_script.specs.Nodes.{numbers, id_of}
use Rattle.scp_quorum_search.specs.declared.member.Member.{Member}
use Rattle.scp_quorum_search.specs.Quorums.{IsQuorumOf, Intersect}
use Rattle.scp_script_hints.specs.Told.{members_in}
use Rattle.scp_script_hints.specs.declared.hint.Hint.{Hint}
use Rattle.scp_script_hints.specs.declared.hint.Hint.TheVariants.{Unknown, Outside, Muted, Disjoint}

-- ---- a quorum set that names a node which the script doesn't have

-- The node is one of the nodes of a script with this many nodes.
abbrev pub is_known : ℕ → NodeId → Bool
is_known count node = list_any (λ number. pointwise nat_eq (id_of number).0 node.0) (numbers count)

-- The hints on a line whose quorum set has these nodes: one for each node that the script doesn't have.
abbrev pub unknown_hints : ℕ → ℕ → List NodeId → List Hint
unknown_hints count line nodes = map (Unknown line) (filter (λ node. not (is_known count node)) nodes)

-- ---- a slot outside the window

-- By this command the node may come to decide something: a link to it is opened, or it proposes.
abbrev pub may_decide : ℕ → Command → Bool
may_decide node (Open from to) = nat_eq to node
may_decide node (Propose at slot value) = nat_eq at node
may_decide node command = false

-- The slot is outside a node's window, whatever the nodes do. It is 0, or above 2^32 - 1, or above 16 if the node can't have decided any
-- slot.
abbrev pub is_outside : Bool → ℕ → Bool
is_outside may slot = nat_eq slot 0 || (nat_lt 4294967295 slot || (not may && nat_lt WINDOW slot))

-- The hint on a line that has a command for a slot at this node. The first argument says which nodes may have decided something.
abbrev pub slot_hints : (ℕ → Bool) → ℕ → ℕ → ℕ → List Hint
slot_hints may line node slot = if is_outside (may node) slot then Outside line slot ∷ [] else []

-- ---- a link that lines send on

-- The command sends on this link.
abbrev pub sends_on : ℕ → ℕ → Command → Bool
sends_on from to (Send at other bytes) = is_link from to at other
sends_on from to command = false

-- The command is a `round`, `timer` or `tick` line's of this node.
abbrev pub turns_at : ℕ → Command → Bool
turns_at node (Round at slot) = nat_eq at node
turns_at node (Timer at slot) = nat_eq at node
turns_at node (Tick at) = nat_eq at node
turns_at node command = false

-- By this command the node may say something: a link to it is opened, or it proposes or asks.
abbrev pub wakes : ℕ → Command → Bool
wakes node (Open from to) = nat_eq to node
wakes node (Propose at slot value) = nat_eq at node
wakes node (Ask from to slot) = nat_eq from node
wakes node command = false

-- The node has turns of its own, and nothing lets it speak. (If something did, `check` would warn that its link is driven.)
abbrev pub is_mute : List Command → ℕ → Bool
is_mute commands node = list_any (turns_at node) commands && not (list_any (wakes node) commands)

-- The hint on the first `send` of such a node on a link. The second argument says on which links lines sent before.
abbrev pub link_hints : List Command → (ℕ → ℕ → Bool) → ℕ → ℕ → ℕ → List Hint
link_hints commands sent line from to = if not (sent from to) && is_mute commands from then Muted line from to ∷ [] else []

-- ---- by lines

-- The hints on a command in this line. The second argument says on which links lines sent before, the third which nodes may have decided
-- something.
abbrev pub command_hints : List Command → (ℕ → ℕ → Bool) → (ℕ → Bool) → ℕ → Command → List Hint
command_hints commands sent may line (Set node set) = unknown_hints (node_count commands) line (all_nodes set)
command_hints commands sent may line (Send from to bytes) = link_hints commands sent line from to
command_hints commands sent may line (Propose node slot value) = slot_hints may line node slot
command_hints commands sent may line (Round node slot) = slot_hints may line node slot
command_hints commands sent may line (Timer node slot) = slot_hints may line node slot
command_hints commands sent may line (Ask from to slot) = slot_hints may line from slot
command_hints commands sent may line command = []

-- The hints on a command in this line, after these commands.
abbrev pub hints_behind : List Command → List Command → ℕ → Command → List Hint
hints_behind commands before line command =
    command_hints commands (λ from to. list_any (sends_on from to) before) (λ node. list_any (may_decide node) before) line command

-- The hints on each of these commands, in the lines with these numbers, after the commands before them.
abbrev pub line_hints : List Command → List Command → List ℕ → List Command → List Hint
line_hints commands before [] others = []
line_hints commands before (line ∷ lines) [] = []
line_hints commands before (line ∷ lines) (command ∷ others) = hints_behind commands before line command ++ line_hints commands (before ++ command ∷ []) lines others

-- ---- as a whole

-- There is no hint if each two quorums have a common node, and else one, with two quorums that have none.
abbrev pub AreApart : List Member → List Hint → Type 0
AreApart members found =
    (Intersect members × (found ≡ []))
    ⊎ ((one other : BTreeSet NodeId) × IsQuorumOf members (is_in one) × IsQuorumOf members (is_in other) × AreDisjoint (is_in one) (is_in other) × (found ≡ Disjoint one other ∷ []))

-- These are the hints on a script of these commands, in the lines with these numbers: by the lines, in their order, then by its nodes'
-- quorums.
abbrev pub AreHints : List Command → List ℕ → List Hint → Type 0
AreHints commands lines found =
    (apart : List Hint) × AreApart (members_in commands) apart × (found ≡ line_hints commands [] lines commands ++ apart)
