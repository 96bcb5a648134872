-- Nodes in a line, one after another.
use Rattle.std.specs.Prelude.{ℕ, Bool, true, false, List, [], ◌++◌, Option, Some, None, codes}
use Rattle.std.specs.BTreeSet.{BTreeSet}
use Rattle.scp_script.specs.scp_types.specs.declared.names.NodeId.{NodeId}
use Rattle.scp_text.specs.Sets.{node_text}
use Rattle.scp_script_hints.specs.Told.{nodes_text}

-- a node, after a comma unless it is the first
abbrev pub next_text : Bool → NodeId → List ℕ
next_text true v = node_text v
next_text false v = codes "," ++ node_text v

-- `-` if no node was written
abbrev pub none_text : Bool → List ℕ
none_text true = codes "-"
none_text false = []

-- the line of two quorums without a common node, or the line that there are none
abbrev pub found_text : Option (BTreeSet NodeId × BTreeSet NodeId) → List ℕ
found_text None = codes "intersect yes\n"
found_text (Some two) = codes "disjoint " ++ nodes_text two.0.keys ++ codes " | " ++ nodes_text two.1.keys ++ codes "\n"

-- the line of two quorums without a common node, or nothing
abbrev pub apart_text : Option (BTreeSet NodeId × BTreeSet NodeId) → List ℕ
apart_text None = []
apart_text (Some two) = codes "disjoint " ++ nodes_text two.0.keys ++ codes " | " ++ nodes_text two.1.keys ++ codes "\n"
