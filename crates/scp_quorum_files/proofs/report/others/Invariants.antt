use Rattle.std.proofs.Common.{take}
use Rattle.scp_quorum_search.specs.scp_quorum.specs.NodeSet.{is_in}
use Rattle.scp_quorum_files.proofs.Lines.{IsOthers}
use Rattle.scp_quorum_files.proofs.report.others.Given as goal

abbrev pub invariant-loop-node : goal.invariant-loop-node
invariant-loop-node l = IsOthers l.members (is_in l.nodes) (take l.node-index l.all)
