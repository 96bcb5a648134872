use Rattle.std.proofs.Common.{◌≡◌, ◌∙◌, ◌++◌, ℕ, List, length, ap, map, subst, sym, arith}
use Rattle.std.specs.Prelude.{All}
use Rattle.scp_line.specs.scp_apply.specs.Applied.{AreInOrder}
use Rattle.scp_line.specs.scp_core.specs.Kv.{NodeView}
use Rattle.scp_line.specs.scp_turn.specs.Heard.{Nodes}
use Rattle.scp_line.specs.scp_script.specs.declared.command.Command.{Command}
use Rattle.scp_line.specs.scp_report.specs.declared.report.Report.{Report}
use Rattle.scp_line.specs.scp_report.specs.Report.{ReportView, view_of}
use Rattle.scp_line.specs.scp_report.specs.Node.{reports_behind, reports_of}
use Rattle.scp_notices.specs.declared.notice.Notice.{Notice}
use Rattle.scp_notices.specs.Nodes.{nodes_notices}
use Rattle.scp_notices.specs.Run.{run_notices, unsettled}
use Rattle.scp_notices.proofs.Order.{records_count, records_in_order, seen_count, seen_in_order}
use Rattle.scp_notices.proofs.playing.notices_of.Goals as goal

pub add_nodes-requires-clause-few : goal.add_nodes-requires-clause-few
add_nodes-requires-clause-few c =
    let nodes = c.nodes.result.now in
    omega (arith, seen_count c.as_slice-records.result.now c.in_ok-reports.reports.items (reports_behind 0 nodes) c.as_slice-records.ensures.value c.in_ok-reports.ensures, records_count 0 nodes, ap (λ (l : Nodes). length l) c.nodes.ensures, c.requires.few)

pub add_nodes-requires-clause-in_order : goal.add_nodes-requires-clause-in_order
add_nodes-requires-clause-in_order c =
    let nodes = c.nodes.result.now in
    seen_in_order c.as_slice-records.result.now c.in_ok-reports.reports.items (reports_behind 0 nodes) c.as_slice-records.ensures.value c.in_ok-reports.ensures
    (records_in_order 0 nodes (subst (λ (l : Nodes). All (λ (v : NodeView). AreInOrder 1 v.applier.applied) l) (sym c.nodes.ensures) c.requires.in_order))

pub returns-clause-notices : goal.returns-clause-notices
returns-clause-notices c =
    let script = c.args.script.now in
    let cs = c.as_slice-commands.result.now in
    let ls = c.as_slice-lines.result.now in
    let told = c.args.told.now in
    let cut = c.args.cut.now in
    let records = c.as_slice-records.result.now in
    let out = c.add_nodes.new.out.items in
    let seen : map view_of records ≡ reports_of c.args.network.now.nodes =
    ap (λ (l : List Report). map view_of l) c.as_slice-records.ensures.value ∙ c.in_ok-reports.ensures ∙ ap (λ (l : Nodes). reports_of l) c.nodes.ensures in
    let parts : out ≡ run_notices cs ls (map view_of records) told cut =
    c.in_ok-add_nodes.ensures.added ∙ ap (λ (l : List Notice). l ++ nodes_notices cs ls told (map view_of records)) (c.in_ok-add_unsettled.ensures ∙ ap (λ (l : List Notice). l ++ unsettled cut) c.new-notices.ensures.items) in
    parts
    ∙ ap (λ (l : List ReportView). run_notices cs ls l told cut) seen
    ∙ ap (λ (l : List ℕ). run_notices cs l (reports_of c.args.network.now.nodes) told cut) c.as_slice-lines.ensures.value
    ∙ ap (λ (l : List Command). run_notices l script.lines.items (reports_of c.args.network.now.nodes) told cut) c.as_slice-commands.ensures.value
