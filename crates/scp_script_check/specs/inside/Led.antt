-- Whether a node leads a slot, by how many rounds of each slot it has.
-- No public clause reaches this: nothing here need be believed.
use Rattle.std.specs.Prelude.{ℕ, ◌+◌, Bool, List, length, min}
use Rattle.std.specs.Option.{unwrap_or}
use Rattle.std.specs.Ordering.{nat_cmp}
use Rattle.std.specs.BTreeMap.{BTreeMap, get}
use Rattle.scp_nominate.specs.scp_types.specs.declared.names.NodeId.{NodeId}
use Rattle.scp_script.specs.Nodes.{id_of}
use Rattle.scp_script_check.specs.Warnings.{leads_in}

-- the node leads the slot in one of the rounds that its `round` lines reach
abbrev pub leads_by : List NodeId → BTreeMap ℕ ℕ → ℕ → ℕ → Bool
leads_by nodes rounds node slot = leads_in nodes slot (min (unwrap_or (get nat_cmp rounds slot) 0 + 1) (length nodes)) (id_of node)
