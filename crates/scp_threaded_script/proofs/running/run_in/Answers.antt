use Rattle.std.proofs.Common.{◌≡◌, ◌∙◌, ℕ, ◌≤◌, List, length, Result, Ok, sym, ap, subst, arith}
use Rattle.std.specs.Prelude.{IfOk, OnOk, OnErr}
use Rattle.std.proofs.lemmas.List.{length-map}
use Rattle.scp_threaded_node.specs.scp_shared_outbox.specs.Table.{AreAllBack, AllCameOut}
use Rattle.scp_threaded_node.specs.scp_gather.specs.Kv.{NodeReport}
use Rattle.scp_threaded_node.specs.Outlets.{given_to}
use Rattle.scp_threaded_script.specs.Reported.{AreNodesReported, AreAllKept}
use Rattle.scp_threaded_script.proofs.Keeping.{all_kept}
use Rattle.scp_threaded_script.specs.inside.Outlets.{AreSameMarkers, all_given}
use Rattle.scp_threaded_script.specs.inside.Over.{AreOver}
use Rattle.scp_threaded_script.proofs.Travelling.{all_back, nodes_reported}
use Rattle.std.proofs.lemmas.Result.{err_from_is_err_and}
use Rattle.std.specs.Prelude.{Err}
use Rattle.scp_threaded_node.specs.scp_types.specs.declared.limits.TheConstants.{NODE_LIMIT}
use Rattle.scp_script.specs.Script.{node_count}
use Rattle.scp_threaded_script.proofs.Ending.{all_numbered, all_given_up, not_started}
use Rattle.scp_threaded_script.proofs.running.run_in.Goals as goal

-- what holds of a call that went well
ok_of : {X E A : Type 0} (r : Result X E) → OnErr r ⊥ → OnOk r A → A
ok_of (Ok x) went a = a
ok_of (Err e) went a = absurd went

told_ok : {X E : Type 0} (P : X → Type 0) (r : Result X E) (x : X) → r ≡ Ok x → IfOk r P → P x
told_ok P r x is h = subst (λ q. IfOk q P) is h

pub returns-in-Err-clause-given_up : goal.returns-in-Err-clause-given_up
returns-in-Err-clause-given_up g c =
    let commands = c.args.commands.now in
    let nodes = c.start_and_act-done.new.nodes.items in
    let stood = c.args.stood.now in
    let ended = c.end_all-told.ensures.ended in
    let most : node_count commands ≤ NODE_LIMIT = omega (arith, c.count_of_nodes-count.ensures.count, c.count_of_nodes-count.ensures.few) in
    all_given_up {T = Unit {0}} commands nodes stood ended.0 (Err c.in-Err.fault) c.start_and_act-done.ensures.so_far c.start_and_act-done.ensures.few most c.requires.stood ended.1
    (c.in-Err.ensures.given_up (node_count commands) ended.0 (all_numbered nodes stood ended.0 ended.1) c.start_and_act-done.ensures.given_up ended.2)

pub returns-in_err-reports-in-Ok-clause-given_up : goal.returns-in_err-reports-in-Ok-clause-given_up
returns-in_err-reports-in-Ok-clause-given_up g c =
    let most : node_count c.args.commands.now ≤ NODE_LIMIT = omega (arith, c.count_of_nodes-count.ensures.count, c.count_of_nodes-count.ensures.few) in
    let p = err_from_is_err_and c.from_residual.result c.from_residual.ensures.1 in
    rw (p.1, p.2, c.in_err-reports-in-Ok.ensures.only_memory) (not_started c.args.commands.now most)

pub taken_back-requires-clause-all : goal.taken_back-requires-clause-all
taken_back-requires-clause-all g c =
    let commands = c.args.commands.now in
    let nodes = c.start_and_act-done.new.nodes.items in
    let first = c.args.made.markers.items in
    let last = c.stop_all.new.markers.items in
    let over = c.in-Ok.over in
    let whole = c.in-Ok.ensures.whole in
    let done = ok_of c.start_and_act-done.result whole.1 c.start_and_act-done.ensures.done in
    let seated = ok_of c.start_and_act-done.result whole.1 c.start_and_act-done.ensures.seated in
    let same : AreSameMarkers first last = c.stop_all.ensures ∙ c.start_and_act-done.ensures.markers in
    let all = told_ok _ c.end_all-told.result over whole.0 (c.end_all-told.ensures.over commands done c.requires.stood) in
    subst (λ (n : ℕ). AreAllBack n over.outlets.items last over.takers.items) (sym c.count_of_nodes-count.ensures.count)
    (all_back commands nodes first last over.reports.items over.outlets.items over.takers.items done seated same all c.requires.made.markers_are)

pub returns-in_ok-reports-in-Ok-clause-reported : goal.returns-in_ok-reports-in-Ok-clause-reported
returns-in_ok-reports-in-Ok-clause-reported g c =
    let commands = c.args.commands.now in
    let nodes = c.start_and_act-done.new.nodes.items in
    let first = c.args.made.markers.items in
    let last = c.stop_all.new.markers.items in
    let over = c.in-Ok.over in
    let whole = c.in-Ok.ensures.whole in
    let done = ok_of c.start_and_act-done.result whole.1 c.start_and_act-done.ensures.done in
    let seated = ok_of c.start_and_act-done.result whole.1 c.start_and_act-done.ensures.seated in
    let same : AreSameMarkers first last = c.stop_all.ensures ∙ c.start_and_act-done.ensures.markers in
    let all = told_ok _ c.end_all-told.result over whole.0 (c.end_all-told.ensures.over commands done c.requires.stood) in
    let came = subst (λ (n : ℕ). AllCameOut n over.outlets.items over.takers.items) c.count_of_nodes-count.ensures.count c.in_ok-reports-in-Ok.ensures.came in
    subst (λ (rs : List NodeReport). AreNodesReported commands rs) (sym c.in_ok-reports-in-Ok.ensures.reports)
    (nodes_reported commands nodes first last over.reports.items over.outlets.items over.takers.items done seated same all c.what_is_handed_out_may_be_sent.ensures c.what_is_carried_is_sent_out.ensures c.what_is_read_is_the_senders_own.ensures.all came)

pub returns-in_ok-reports-in-Ok-clause-losses : goal.returns-in_ok-reports-in-Ok-clause-losses
returns-in_ok-reports-in-Ok-clause-losses g c =
    let commands = c.args.commands.now in
    let nodes = c.start_and_act-done.new.nodes.items in
    let over = c.in-Ok.over in
    let whole = c.in-Ok.ensures.whole in
    let done = ok_of c.start_and_act-done.result whole.1 c.start_and_act-done.ensures.done in
    let all = told_ok (λ o. AreOver commands (all_given nodes) o.reports.items o.outlets.items o.takers.items) c.end_all-told.result over whole.0 (c.end_all-told.ensures.over commands done c.requires.stood) in
    c.in_ok-reports-in-Ok.ensures.losses ∙ all.outlets_count ∙ length-map nodes given_to ∙ done.0

pub returns-in_ok-reports-in-Ok-clause-kept : goal.returns-in_ok-reports-in-Ok-clause-kept
returns-in_ok-reports-in-Ok-clause-kept g c =
    let commands = c.args.commands.now in
    let nodes = c.start_and_act-done.new.nodes.items in
    let over = c.in-Ok.over in
    let whole = c.in-Ok.ensures.whole in
    let done = ok_of c.start_and_act-done.result whole.1 c.start_and_act-done.ensures.done in
    let keeping = ok_of c.start_and_act-done.result whole.1 c.start_and_act-done.ensures.keeping in
    let all = told_ok (λ o. AreOver commands (all_given nodes) o.reports.items o.outlets.items o.takers.items) c.end_all-told.result over whole.0 (c.end_all-told.ensures.over commands done c.requires.stood) in
    subst (λ (rs : List NodeReport). AreAllKept c.args.keeps rs) (sym c.in_ok-reports-in-Ok.ensures.reports) (all_kept c.args.keeps commands (all_given nodes) over.reports.items over.outlets.items over.takers.items all keeping)
