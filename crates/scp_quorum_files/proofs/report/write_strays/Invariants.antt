use Rattle.std.proofs.Common.{◌≡◌, ◌++◌, map, drop, string_bytes}
use Rattle.std.specs.List.{flat_map}
use Rattle.scp_quorum_files.specs.Report.{stray_line}
use Rattle.scp_quorum_files.proofs.report.write_strays.Given as goal

-- with what is left it is all
abbrev pub invariant-loop-key : goal.invariant-loop-key
invariant-loop-key l = string_bytes l.out ++ flat_map (λ key. stray_line (map string_bytes l.strays) (string_bytes key)) (drop l.key-index l.key-items) ≡ string_bytes l.initial.out ++ flat_map (λ key. stray_line (map string_bytes l.strays) (string_bytes key)) l.key-items
