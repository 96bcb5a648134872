use Rattle.std.proofs.Common.{◌≡◌, ◌++◌, drop, string_bytes}
use Rattle.std.specs.List.{flat_map}
use Rattle.scp_quorum_files.specs.Report.{lost_line}
use Rattle.scp_quorum_files.proofs.report.write_each_lost.Given as goal

-- with what is left it is all
abbrev pub invariant-loop-lost : goal.invariant-loop-lost
invariant-loop-lost l = string_bytes l.out ++ flat_map (lost_line l.all l.fn.at) (drop l.lost-index l.found) ≡ string_bytes l.initial.out ++ flat_map (lost_line l.all l.fn.at) l.found
