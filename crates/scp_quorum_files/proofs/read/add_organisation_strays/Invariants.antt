use Rattle.std.proofs.Common.{◌≡◌, ◌++◌, map, drop, string_bytes}
use Rattle.std.specs.List.{flat_map}
use Rattle.serde_json.specs.View.{view}
use Rattle.scp_quorum_files.specs.Networks.{organisation_strays}
use Rattle.scp_quorum_files.proofs.read.add_organisation_strays.Given as goal

-- with those that are left they are all
abbrev pub invariant-loop-value : goal.invariant-loop-value
invariant-loop-value l =
    map string_bytes l.strays.items ++ flat_map (organisation_strays l.form) (map view (drop l.value-index l.values)) ≡ map string_bytes l.initial.strays.items ++ flat_map (organisation_strays l.form) (map view l.values)
