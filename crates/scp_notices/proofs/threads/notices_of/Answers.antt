use Rattle.std.proofs.Common.{◌≡◌, ◌∙◌, ◌++◌, ℕ, List, append_assoc, ap, map, arith}
use Rattle.std.specs.Global.{Vec}
use Rattle.scp_line.specs.scp_script.specs.declared.command.Command.{Command}
use Rattle.scp_line.specs.scp_report.specs.declared.report.Report.{Report}
use Rattle.scp_line.specs.scp_report.specs.Report.{ReportView, view_of}
use Rattle.scp_line.specs.Left.{left_behind, reports_left}
use Rattle.scp_notices.specs.declared.commands.Told.{Told}
use Rattle.scp_notices.specs.declared.notice.Notice.{Notice}
use Rattle.scp_notices.specs.Nodes.{nodes_notices}
use Rattle.scp_notices.specs.Threads.{told_in, no_wait, gave_up, threads_notices}
use Rattle.scp_notices.proofs.Order.{left_count, left_in_order, seen_count, seen_in_order}
use Rattle.scp_notices.proofs.threads.notices_of.Goals as goal

pub told_of-requires : goal.told_of-requires
told_of-requires c =
    let rows = map (λ (row : Vec ℕ). row.items) c.args.losses.now in
    let cs = c.as_slice-commands.result.now in
    let nodes = c.args.nodes.now in
    record { few = omega (arith, seen_count c.as_slice-records.result.now c.in_ok-reports.reports.items (left_behind cs rows 0 nodes) c.as_slice-records.ensures.value c.in_ok-reports.ensures, left_count cs rows 0 nodes, c.requires.few) }

pub add_nodes-requires-clause-few : goal.add_nodes-requires-clause-few
add_nodes-requires-clause-few c =
    let rows = map (λ (row : Vec ℕ). row.items) c.args.losses.now in
    let cs = c.as_slice-commands.result.now in
    let nodes = c.args.nodes.now in
    omega (arith, seen_count c.as_slice-records.result.now c.in_ok-reports.reports.items (left_behind cs rows 0 nodes) c.as_slice-records.ensures.value c.in_ok-reports.ensures, left_count cs rows 0 nodes, c.requires.few)

pub add_nodes-requires-clause-in_order : goal.add_nodes-requires-clause-in_order
add_nodes-requires-clause-in_order c =
    let rows = map (λ (row : Vec ℕ). row.items) c.args.losses.now in
    let cs = c.as_slice-commands.result.now in
    let nodes = c.args.nodes.now in
    seen_in_order c.as_slice-records.result.now c.in_ok-reports.reports.items (left_behind cs rows 0 nodes) c.as_slice-records.ensures.value c.in_ok-reports.ensures (left_in_order cs rows 0 nodes c.requires.in_order)

pub returns-clause-notices : goal.returns-clause-notices
returns-clause-notices c =
    let script = c.args.script.now in
    let cs = c.as_slice-commands.result.now in
    let ls = c.as_slice-lines.result.now in
    let nodes = c.args.nodes.now in
    let places = c.args.places.now in
    let rows = map (λ (row : Vec ℕ). row.items) c.args.losses.now in
    let records = c.as_slice-records.result.now in
    let told = c.as_slice-2.result.now in
    let out = c.add_no_wait.new.out.items in
    let seen : map view_of records ≡ reports_left cs nodes rows = ap (λ (l : List Report). map view_of l) c.as_slice-records.ensures.value ∙ c.in_ok-reports.ensures in
    let reported : told ≡ told_in (map view_of records) = c.as_slice-2.ensures.value ∙ c.in_ok-told.ensures in
    let first : c.add_gave_up.new.out.items ≡ gave_up ls places = c.in_ok-add_gave_up.ensures ∙ ap (λ (l : List Notice). l ++ gave_up ls places) c.new-notices.ensures.items in
    let second : c.add_nodes.new.out.items ≡ gave_up ls places ++ nodes_notices cs ls told (map view_of records) =
    c.in_ok-add_nodes.ensures.added ∙ ap (λ (l : List Notice). l ++ nodes_notices cs ls told (map view_of records)) first in
    let parts : out ≡ gave_up ls places ++ (nodes_notices cs ls told (map view_of records) ++ no_wait cs) =
    c.in_ok-add_no_wait.ensures ∙ ap (λ (l : List Notice). l ++ no_wait cs) second ∙ append_assoc (gave_up ls places) (nodes_notices cs ls told (map view_of records)) (no_wait cs) in
    let all : out ≡ threads_notices cs ls (map view_of records) places = parts ∙ ap (λ (t : List Told). gave_up ls places ++ (nodes_notices cs ls t (map view_of records) ++ no_wait cs)) reported in
    all
    ∙ ap (λ (l : List ReportView). threads_notices cs ls l places) seen
    ∙ ap (λ (l : List ℕ). threads_notices cs l (reports_left cs nodes rows) places) c.as_slice-lines.ensures.value
    ∙ ap (λ (l : List Command). threads_notices l script.lines.items (reports_left l nodes rows) places) c.as_slice-commands.ensures.value
