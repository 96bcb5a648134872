use Rattle.std.proofs.Common.{◌≡◌, ◌++◌, ℕ, true, List}
use Rattle.std.specs.List.{list_all}
use Rattle.toml.specs.Data.{Data}
use Rattle.toml.specs.View.{table_view, members_view}
use Rattle.scp_live_config.specs.Names.{belongs, pairs_of}
use Rattle.scp_live_config.proofs.table.stray.Given as goal

-- the pairs so far have keys of the section, and with those that are left they are all pairs
abbrev pub invariant-loop-key : goal.invariant-loop-key
invariant-loop-key l =
    (done : List (List ℕ × Data))
    × (pairs_of (table_view l.table) ≡ done ++ pairs_of (members_view l.key-iterator))
    × (list_all (λ pair. belongs l.section pair.0) done ≡ true)
