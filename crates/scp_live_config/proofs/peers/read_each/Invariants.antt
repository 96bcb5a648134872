use Rattle.std.proofs.Common.{◌≡◌, ◌≢◌, Some, map, take}
use Rattle.std.specs.List.{AllByRecursion}
use Rattle.toml.specs.View.{view}
use Rattle.scp_live_config.specs.Names.{NoTwo, name_said}
use Rattle.scp_live_config.proofs.peers.read_each.Given as goal

-- the peers so far are those that were said, each once, and none is the node
abbrev pub invariant-loop-place : goal.invariant-loop-place
invariant-loop-place l =
    (map (name_said l.names) (map view (take l.place l.values)) ≡ map Some l.peers.items)
    × NoTwo (λ peer. peer.name) l.peers.items
    × AllByRecursion (λ peer. peer.name ≢ l.node.name) l.peers.items
