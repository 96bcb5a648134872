use Rattle.std.proofs.Common.{◌≡◌, ◌++◌, map, drop, string_bytes}
use Rattle.serde_json.specs.View.{items_view, members_view}
use Rattle.scp_quorum_files.specs.Networks.{items_names, members_names}
use Rattle.scp_quorum_files.proofs.names.+naming.Given as goal

-- with those that are left they are all
abbrev pub invariant-add_names_of_each-loop-value : goal.invariant-add_names_of_each-loop-value
invariant-add_names_of_each-loop-value l =
    map string_bytes l.names.items ++ items_names l.form (items_view (drop l.value-index l.values)) ≡ map string_bytes l.initial.names.items ++ items_names l.form (items_view l.values)

abbrev pub invariant-add_names_of_set-loop-key : goal.invariant-add_names_of_set-loop-key
invariant-add_names_of_set-loop-key l =
    map string_bytes l.names.items ++ members_names l.form (members_view l.key-iterator) ≡ map string_bytes l.initial.names.items ++ members_names l.form (members_view l.object.entries)
