use Rattle.std.proofs.Common.{◌≡◌, ℕ, ◌<◌, List, false, map, get_or, string_bytes}
use Rattle.std.specs.Str.{bytes_eq}
use Rattle.scp_quorum_files.proofs.names.id_of.Given as goal

-- none of those so far
abbrev pub invariant-loop-place : goal.invariant-loop-place
invariant-loop-place l = (k : ℕ) (d : List ℕ) → k < l.place → bytes_eq l.name (get_or (map string_bytes l.names) k d) ≡ false
