-- What nodes applied stands in the order of the slots.
use Rattle.std.proofs.Common.{◌≡◌, ◌+◌, ◌∙◌, ℕ, false, List, [], ◌∷◌, get_or, length, map, refl, sym, ap, subst, arith, inl, inr}
use Rattle.std.specs.Prelude.{◌⊎◌, All}
use Rattle.std.proofs.lemmas.List.{get_or-map, length-map}
use Rattle.std.proofs.lemmas.List.Elements.{All-nil, All-cons, All-head, All-tail}
use Rattle.std.proofs.lemmas.Option.{slice_get-get_or}
use Rattle.scp_line.specs.scp_ledger.specs.declared.journal.Decision.{Decision}
use Rattle.scp_line.specs.scp_apply.specs.Applied.{AreInOrder}
use Rattle.scp_line.specs.scp_core.specs.History.{Exchange}
use Rattle.scp_line.specs.scp_core.specs.Kv.{HoldsLedger, FailedAfter, TheoremGivesLedger, NodeView}
use Rattle.scp_line.specs.scp_turn.specs.Heard.{past_at}
use Rattle.scp_line.specs.scp_turn.specs.Network.{NetworkView}
use Rattle.scp_line.specs.scp_gather.specs.Kv.{NodeReport, ReportsKeepHeadline}
use Rattle.scp_line.specs.scp_threaded_script.specs.Reported.{AreNodesReported}
use Rattle.scp_line.specs.scp_script.specs.declared.command.Command.{Command}
use Rattle.scp_line.specs.scp_script.specs.Nodes.{id_of, peers_of, set_at}
use Rattle.scp_line.specs.scp_script.specs.Script.{node_count}
use Rattle.scp_line.specs.Nodes.{HasPlayed}
use Rattle.scp_line.specs.scp_report.specs.declared.report.Report.{Report}
use Rattle.scp_line.specs.scp_report.specs.Report.{ReportView, view_of}
use Rattle.scp_line.specs.scp_report.specs.Node.{report_of, reports_behind}
use Rattle.scp_line.specs.Left.{left_behind, report_left}
use Rattle.scp_notices.specs.inside.Seen.{applied_in}

from_one : (past : List Exchange) (v : NodeView) (h : HoldsLedger past v) → AreInOrder 1 h.moment.applier.applied
from_one past v h = subst (λ (first : ℕ). AreInOrder first h.moment.applier.applied) (h.keeps.applied.first ∙ h.first) h.keeps.applied.in_order

order_of : (past : List Exchange) (v : NodeView) (h : HoldsLedger past v) → ((v.failed ≡ false) × (h.earlier ≡ past) × (h.moment ≡ v)) ⊎ FailedAfter past h.earlier v h.moment → AreInOrder 1 v.applier.applied
order_of past v h (inl now) = subst (λ (u : NodeView). AreInOrder 1 u.applier.applied) now.2 (from_one past v h)
order_of past v h (inr after) = subst (λ (l : List Decision). AreInOrder 1 l) (sym after.keeps.applied) (from_one past v h)

-- of nodes that played a script
pub nodes_in_order : TheoremGivesLedger → (commands done : List Command) (network : NetworkView) → HasPlayed commands done network → All (λ (node : NodeView). AreInOrder 1 node.applier.applied) network.nodes
nodes_in_order law commands done network far = λ k d within.
    let v = get_or network.nodes k d in
    let h = law (past_at (k + 1) far.heard) v (far.played.have k d within) in
    order_of (past_at (k + 1) far.heard) v h h.is

-- of nodes whose stages ran in threads
pub reports_in_order : ReportsKeepHeadline → (commands : List Command) (reports : List NodeReport) → AreNodesReported commands reports → All (λ (report : NodeReport). AreInOrder 1 report.applied.items) reports
reports_in_order law commands reports reported = λ k d within.
    let r = get_or reports k d in
    let one = reported.reported k r (slice_get-get_or reports k d within) in
    let ended = one.2.ended in
    (law (id_of (k + 1)) (set_at (k + 1) commands) (peers_of (node_count commands) (k + 1)) one.0 r.journal.items r.parked.items r.applied.items ended.report).in_order

-- ---- of their records

-- what is seen of a node is in order
abbrev pub IsInOrder : ReportView → Type 0
IsInOrder report = AreInOrder 1 report.applied

-- of the records of nodes that played a script
pub records_in_order : (number : ℕ) (nodes : List NodeView) → All (λ (node : NodeView). AreInOrder 1 node.applier.applied) nodes → All IsInOrder (reports_behind number nodes)
records_in_order number [] all = All-nil IsInOrder
records_in_order number (node ∷ nodes) all =
    All-cons IsInOrder (report_of (number + 1) node) (reports_behind (number + 1) nodes) (All-head (λ (v : NodeView). AreInOrder 1 v.applier.applied) node nodes all)
    (records_in_order (number + 1) nodes (All-tail (λ (v : NodeView). AreInOrder 1 v.applier.applied) node nodes all))

pub records_count : (number : ℕ) (nodes : List NodeView) → length (reports_behind number nodes) ≡ length nodes
records_count number [] = refl
records_count number (node ∷ nodes) = omega (arith, records_count (number + 1) nodes)

-- of the records of nodes whose stages ran in threads
pub left_in_order : (commands : List Command) (losses : List (List ℕ)) (number : ℕ) (nodes : List NodeReport) → All (λ (node : NodeReport). AreInOrder 1 node.applied.items) nodes → All IsInOrder (left_behind commands losses number nodes)
left_in_order commands losses number [] all = All-nil IsInOrder
left_in_order commands losses number (node ∷ nodes) all =
    All-cons IsInOrder (report_left commands (number + 1) node (get_or losses number [])) (left_behind commands losses (number + 1) nodes) (All-head (λ (r : NodeReport). AreInOrder 1 r.applied.items) node nodes all)
    (left_in_order commands losses (number + 1) nodes (All-tail (λ (r : NodeReport). AreInOrder 1 r.applied.items) node nodes all))

pub left_count : (commands : List Command) (losses : List (List ℕ)) (number : ℕ) (nodes : List NodeReport) → length (left_behind commands losses number nodes) ≡ length nodes
left_count commands losses number [] = refl
left_count commands losses number (node ∷ nodes) = omega (arith, left_count commands losses (number + 1) nodes)

-- what is so of the records as they are seen is so of those that the code has
pub seen_in_order : (reports items : List Report) (views : List ReportView) → reports ≡ items → map view_of items ≡ views → All IsInOrder views → All (λ (report : Report). AreInOrder 1 (applied_in report)) reports
seen_in_order reports items views same seen all = λ k d within.
    let those : map view_of reports ≡ views = ap (map view_of) same ∙ seen in
    let one = subst (λ (l : List ReportView). All IsInOrder l) (sym those) all k (view_of d) (omega (arith, within, length-map reports view_of)) in
    subst IsInOrder (get_or-map view_of reports k d (view_of d) within) one

-- and they are as many
pub seen_count : (reports items : List Report) (views : List ReportView) → reports ≡ items → map view_of items ≡ views → length reports ≡ length views
seen_count reports items views same seen = sym (length-map reports view_of) ∙ ap (λ (l : List Report). length (map view_of l)) same ∙ ap (λ (l : List ReportView). length l) seen
