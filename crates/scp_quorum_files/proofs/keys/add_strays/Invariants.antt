use Rattle.std.proofs.Common.{◌≡◌, ◌++◌, map, string_bytes}
use Rattle.serde_json.specs.View.{members_view}
use Rattle.scp_quorum_files.specs.Documents.{strays_of}
use Rattle.scp_quorum_files.proofs.keys.add_strays.Given as goal

-- with those that are left they are all
abbrev pub invariant-loop-key : goal.invariant-loop-key
invariant-loop-key l = map string_bytes l.strays.items ++ strays_of l.form l.part (members_view l.key-iterator) ≡ map string_bytes l.initial.strays.items ++ strays_of l.form l.part (members_view l.object.entries)
