use Rattle.std.proofs.Common.{◌<◌, ◌+◌, length, map, refl, arith}
use Rattle.scp_report.specs.Report.{view_of}
use Rattle.scp_report.specs.Node.{report_of, reports_behind}
use Rattle.scp_report.proofs.Rows.{rows_more, seen_more}
use Rattle.scp_report.proofs.node.reports_of.Goals as goal

pub loop-node-preserved : goal.loop-node-preserved
loop-node-preserved c =
    let nodes = c.args.nodes.now in
    let n = c.loop-node.number in
    let i = c.loop-node.node-index in
    let node = c.node-item.result in
    let old = c.loop-node.reports.items in
    let new = c.push.new.self.items in
    record {
      at = omega (arith, c.loop-node.invariant.at);
      so_far =
          rows_more reports_behind (λ number v. report_of (number + 1) v) (λ number v vs. refl) n i nodes node (map view_of old) (map view_of new) (reports_behind 0 nodes)
          (omega (arith, c.loop-node-test.true)) c.node-item.is
          (seen_more view_of old new c.in_ok-report_of.field-0 (report_of (n + 1) node) c.in_ok-push.ensures.items c.in_ok-report_of.ensures)
          c.loop-node.invariant.so_far;
    }
