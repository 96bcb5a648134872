use Rattle.std.proofs.Common.{◌≡◌, ◌++◌, drop, map}
use Rattle.serde_json.specs.View.{view}
use Rattle.scp_history_json.specs.Json.{node_json}
use Rattle.scp_history_json.proofs.pieces.nodes_value.Given as goal

-- with what is left it is all
abbrev pub invariant-loop-node : goal.invariant-loop-node
invariant-loop-node l = map view l.values.items ++ map (node_json l.by_number) (drop l.node-index l.nodes) ≡ map (node_json l.by_number) l.nodes
