use Rattle.std.proofs.Common.{◌≡◌, ◌++◌, drop, map}
use Rattle.scp_report.specs.Report.{view_of}
use Rattle.scp_report.specs.Node.{reports_behind}
use Rattle.scp_report.proofs.node.reports_of.Given as goal

-- with what is left it is all
abbrev pub invariant-loop-node : goal.invariant-loop-node
invariant-loop-node l = record {
  at : l.number ≡ l.node-index;
  so_far : map view_of l.reports.items ++ reports_behind l.number (drop l.node-index l.nodes) ≡ reports_behind 0 l.nodes;
}
