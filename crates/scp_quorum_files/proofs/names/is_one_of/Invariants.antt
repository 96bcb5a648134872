use Rattle.std.proofs.Common.{◌≡◌, map, drop, string_bytes}
use Rattle.std.specs.List.{list_any}
use Rattle.std.specs.Str.{bytes_eq}
use Rattle.scp_quorum_files.proofs.names.is_one_of.Given as goal

-- what is left shows it
abbrev pub invariant-loop-other : goal.invariant-loop-other
invariant-loop-other l = list_any (bytes_eq l.text) (map string_bytes (drop l.other-index l.texts)) ≡ list_any (bytes_eq l.text) (map string_bytes l.texts)
