-- The report on the quorum sets of a script, in lines.
use Rattle.std.specs.Prelude.{◌≡◌, ◌⊎◌, ℕ, Bool, List, [], ◌∷◌, ◌++◌, Option, Some, None, map, flat_map, codes}
use Rattle.std.specs.Fmt.{decimal}
use Rattle.std.specs.List.{All}
use Rattle.std.specs.BTreeSet.{BTreeSet}
use Rattle.scp_script.specs.scp_types.specs.declared.names.NodeId.{NodeId}
use Rattle.scp_script.specs.scp_quorum.specs.NodeSet.{is_in}
use Rattle.scp_script.specs.scp_quorum.specs.Satisfies.{AreDisjoint}
use Rattle.scp_quorum_search.specs.declared.member.Member.{Member}
use Rattle.scp_quorum_search.specs.Quorums.{IsQuorumOf, Intersect, IsSmallestHalting, IsListed, IsGreatestSurvived}
use Rattle.scp_script.specs.declared.command.Command.{Command}
use Rattle.scp_script.specs.Script.{node_count}
use Rattle.scp_script.specs.Nodes.{id_of, numbers, set_at}
use Rattle.scp_text.specs.Sets.{node_text}

-- The nodes of a script, each with its quorum set.
abbrev pub members_in : List Command → List Member
members_in commands = map (λ number. record { node = id_of number; set = set_at number commands }) (numbers (node_count commands))

-- Nodes, with commas between them, or `-` for none.
abbrev pub nodes_text : List NodeId → List ℕ
nodes_text [] = codes "-"
nodes_text (v ∷ vs) = node_text v ++ flat_map (λ w. codes "," ++ node_text w) vs

-- `intersect yes` if each two quorums have a common node, or else `disjoint` and two quorums that have none.
abbrev pub TellsDisjoint : List Member → List ℕ → Type 0
TellsDisjoint members text =
    (Intersect members × (text ≡ codes "intersect yes\n"))
    ⊎ ((one other : BTreeSet NodeId) × IsQuorumOf members (is_in one) × IsQuorumOf members (is_in other) × AreDisjoint (is_in one) (is_in other)
    × (text ≡ codes "disjoint " ++ nodes_text one.keys ++ codes " | " ++ nodes_text other.keys ++ codes "\n"))

-- No text if each two quorums have a common node, or else the line with `disjoint` and two quorums that have none.
abbrev pub TellsApart : List Member → List ℕ → Type 0
TellsApart members text =
    (Intersect members × (text ≡ []))
    ⊎ ((one other : BTreeSet NodeId) × IsQuorumOf members (is_in one) × IsQuorumOf members (is_in other) × AreDisjoint (is_in one) (is_in other)
    × (text ≡ codes "disjoint " ++ nodes_text one.keys ++ codes " | " ++ nodes_text other.keys ++ codes "\n"))

-- The line that reports a set of nodes whose loss halts a node.
abbrev pub halting_line : NodeId → BTreeSet NodeId → List ℕ
halting_line at lost = codes "blocks " ++ node_text at ++ codes ": " ++ nodes_text lost.keys ++ codes "\n"

-- A line for each smallest set of other nodes whose loss halts a node.
pub record TellsHalting (members : List Member) (at : NodeId) (text : List ℕ) : Type 0 where
  pub found : List (BTreeSet NodeId)
  pub each : All (λ lost. IsSmallestHalting members at (is_in lost)) found
  pub all : (lost : NodeId → Bool) → IsSmallestHalting members at lost → IsListed found lost
  pub is : text ≡ flat_map (halting_line at) found

-- These lines for each of these members, in their order.
abbrev pub TellAllHalting : List Member → List Member → List ℕ → Type 0
TellAllHalting members [] text = text ≡ []
TellAllHalting members (m ∷ ms) text = (front back : List ℕ) × TellsHalting members m.node front × TellAllHalting members ms back × (text ≡ front ++ back)

-- The line with the number of nodes whose loss is survived, whichever they are.
abbrev pub survived_text : Option ℕ → List ℕ
survived_text (Some count) = codes "survives " ++ decimal count ++ codes "\n"
survived_text None = codes "survives none\n"

-- The line that reports the greatest number of lost nodes that is survived.
abbrev pub TellsSurvived : List Member → List ℕ → Type 0
TellsSurvived members text = (count : Option ℕ) × IsGreatestSurvived members count × (text ≡ survived_text count)

-- The whole report on the quorum sets of some nodes.
abbrev pub TellsQuorums : List Member → List ℕ → Type 0
TellsQuorums members text =
    (disjoint halting survived : List ℕ) × TellsDisjoint members disjoint × TellAllHalting members members halting × TellsSurvived members survived
    × (text ≡ disjoint ++ halting ++ survived)
