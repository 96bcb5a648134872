use Rattle.std.proofs.Common.{◌≡◌, ◌++◌, map, drop, string_bytes}
use Rattle.serde_json.specs.View.{items_view, members_view}
use Rattle.scp_quorum_files.specs.Networks.{items_strays, members_strays}
use Rattle.scp_quorum_files.proofs.names.+straying.Given as goal

-- with those that are left they are all
abbrev pub invariant-add_strays_of_each-loop-value : goal.invariant-add_strays_of_each-loop-value
invariant-add_strays_of_each-loop-value l =
    map string_bytes l.strays.items ++ items_strays l.form (items_view (drop l.value-index l.values)) ≡ map string_bytes l.initial.strays.items ++ items_strays l.form (items_view l.values)

abbrev pub invariant-add_strays_inside-loop-key : goal.invariant-add_strays_inside-loop-key
invariant-add_strays_inside-loop-key l =
    map string_bytes l.strays.items ++ members_strays l.form (members_view l.key-iterator) ≡ map string_bytes l.initial.strays.items ++ members_strays l.form (members_view l.object.entries)
