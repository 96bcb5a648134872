use Rattle.std.proofs.Common.{◌≡◌, ◌++◌, map, drop, string_bytes}
use Rattle.std.specs.List.{flat_map}
use Rattle.serde_json.specs.View.{view}
use Rattle.scp_quorum_files.specs.Networks.{node_strays}
use Rattle.scp_quorum_files.proofs.read.add_node_strays.Given as goal

-- with those that are left they are all
abbrev pub invariant-loop-node : goal.invariant-loop-node
invariant-loop-node l =
    map string_bytes l.strays.items ++ flat_map (node_strays l.form) (map view (drop l.node-index l.nodes)) ≡ map string_bytes l.initial.strays.items ++ flat_map (node_strays l.form) (map view l.nodes)
