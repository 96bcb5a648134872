use Rattle.std.proofs.Common.{◌≡◌, Some, map, take}
use Rattle.toml.specs.View.{view}
use Rattle.scp_live_config.specs.Names.{node_said}
use Rattle.scp_live_config.proofs.sets.read_nodes.Given as goal

-- the nodes so far are those that were said
abbrev pub invariant-loop-place : goal.invariant-loop-place
invariant-loop-place l = map (node_said l.names) (map view (take l.place l.values)) ≡ map Some l.nodes.items
