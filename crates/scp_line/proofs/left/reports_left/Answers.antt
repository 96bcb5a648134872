use Rattle.std.proofs.Common.{◌≡◌, ◌<◌, ◌≤◌, ◌+◌, ◌-◌, ◌∙◌, ℕ, List, [], length, map, get_or, refl, ap, arith}
use Rattle.std.specs.Global.{Vec}
use Rattle.scp_report.specs.Report.{view_of}
use Rattle.scp_line.specs.Left.{left_behind, report_left}
use Rattle.scp_report.proofs.Rows.{rows_more, seen_more}
use Rattle.scp_line.proofs.Sets.{sets_count, set_there}
use Rattle.scp_line.proofs.left.reports_left.Goals as goal

pub set_of-set-requires : goal.set_of-set-requires
set_of-set-requires c = (
  omega arith,
  omega (arith, sets_count c.args.commands.now c.args.sets.now c.requires.sets, c.requires.count, c.loop-node.invariant.at, c.loop-node-test.true),
)

pub report_left-requires-clause-set : goal.report_left-requires-clause-set
report_left-requires-clause-set c =
    let few : c.loop-node.number + 1 ≤ length c.args.nodes.now = omega (arith, c.loop-node.invariant.at, c.loop-node-test.true) in
    set_there c.args.commands.now c.args.sets.now (c.loop-node.number + 1) c.set_of-set.result.now c.requires.sets (omega arith) (omega (arith, few, c.requires.count)) c.set_of-set.ensures

pub loop-node-preserved : goal.loop-node-preserved
loop-node-preserved c =
    let commands = c.args.commands.now in
    let rows = map (λ (row : Vec ℕ). row.items) c.args.losses.now in
    let nodes = c.args.nodes.now in
    let n = c.loop-node.number in
    let i = c.loop-node.node-index in
    let node = c.node-item.result in
    let old = c.loop-node.reports.items in
    let new = c.push.new.self.items in
    let place : n + 1 - 1 ≡ n = omega arith in
    let lost : c.lost_of-lost.result.now ≡ get_or rows n [] = c.lost_of-lost.ensures ∙ ap (λ (k : ℕ). get_or rows k []) place in
    record {
      at = omega (arith, c.loop-node.invariant.at);
      so_far =
          rows_more (left_behind commands rows) (λ number left. report_left commands (number + 1) left (get_or rows number [])) (λ number left others. refl) n i nodes node (map view_of old) (map view_of new) (left_behind commands rows 0 nodes)
          (omega (arith, c.loop-node-test.true)) c.node-item.is
          (seen_more view_of old new c.in_ok-report_left.field-0 (report_left commands (n + 1) node (get_or rows n [])) c.in_ok-push.ensures.items
          (c.in_ok-report_left.ensures ∙ ap (λ (row : List ℕ). report_left commands (n + 1) node row) lost))
          c.loop-node.invariant.so_far;
    }
