use Rattle.std.proofs.Common.{◌≡◌, ◌++◌, ℕ, Some, List, map}
use Rattle.toml.specs.Data.{Data}
use Rattle.toml.specs.View.{table_view, members_view}
use Rattle.scp_live_config.specs.Names.{NoTwo, identity_said, pairs_of}
use Rattle.scp_live_config.proofs.names.read_nodes.Given as goal

-- the names so far are those that were said, and with the pairs that are left they are all
abbrev pub invariant-loop-name : goal.invariant-loop-name
invariant-loop-name l =
    (done : List (List ℕ × Data))
    × (pairs_of (table_view l.nodes) ≡ done ++ pairs_of (members_view l.name-iterator))
    × (map identity_said done ≡ map Some l.names.items)
    × NoTwo (λ identity. identity.id) l.names.items
