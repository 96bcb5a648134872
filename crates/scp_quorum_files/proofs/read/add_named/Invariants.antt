use Rattle.std.proofs.Common.{◌≡◌, ◌++◌, map, drop, string_bytes}
use Rattle.std.specs.List.{flat_map}
use Rattle.serde_json.specs.View.{view}
use Rattle.scp_quorum_files.specs.Networks.{names_in, node_set}
use Rattle.scp_quorum_files.proofs.read.add_named.Given as goal

-- with those that are left they are all
abbrev pub invariant-loop-node : goal.invariant-loop-node
invariant-loop-node l =
    map string_bytes l.names.items ++ flat_map (λ d. flat_map (names_in l.form) (node_set l.form d)) (map view (drop l.node-index l.nodes))
    ≡ map string_bytes l.initial.names.items ++ flat_map (λ d. flat_map (names_in l.form) (node_set l.form d)) (map view l.nodes)
