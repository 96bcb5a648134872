use Rattle.std.proofs.Common.{◌≡◌, ◌++◌, ◌≤◌, drop, length, map}
use Rattle.scp_report.specs.Report.{view_of}
use Rattle.scp_line.specs.Left.{left_behind}
use Rattle.scp_line.proofs.left.reports_left.Given as goal

-- with what is left it is all
abbrev pub invariant-loop-node : goal.invariant-loop-node
invariant-loop-node l = record {
  at : l.number ≡ l.node-index;
  so_far : map view_of l.reports.items ++ left_behind l.commands (map (λ row. row.items) l.losses) l.number (drop l.node-index l.nodes) ≡ left_behind l.commands (map (λ row. row.items) l.losses) 0 l.nodes;
}
