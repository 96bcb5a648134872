use Rattle.std.proofs.Common.{◌≡◌, ◌++◌, drop, string_bytes}
use Rattle.scp_quorum_search.specs.scp_quorum.specs.NodeSet.{is_in}
use Rattle.scp_quorum_files.specs.Report.{names_among, names_text}
use Rattle.scp_quorum_files.proofs.Lines.{remaining}
use Rattle.scp_quorum_files.proofs.report.write_names.Given as goal

-- with the names that are left it is all
abbrev pub invariant-loop-node : goal.invariant-loop-node
invariant-loop-node l = string_bytes l.out ++ remaining l.first (names_among (drop l.node-index l.all) (is_in l.nodes)) ≡ string_bytes l.initial.out ++ names_text l.all (is_in l.nodes)
