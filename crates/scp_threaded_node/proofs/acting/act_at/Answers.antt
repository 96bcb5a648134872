use Rattle.std.proofs.Common.{◌≡◌, ◌∙◌, refl, sym, ap, subst, Result, Ok, Err, arith}
use Rattle.std.specs.Prelude.{OnOk, OnErr, MatchResult, Some, slice_get, slice_set}
use Rattle.std.proofs.lemmas.Option.{slice_get-get_or}
use Rattle.scp_gather.specs.scp_types.specs.declared.fault.Fault.{Fault}
use Rattle.scp_threaded_node.specs.declared.node.Running.{Running}
use Rattle.scp_threaded_node.specs.Acting.{acted, CanAct, IsActFault}
use Rattle.scp_threaded_node.proofs.Changing.{set_same}
use Rattle.scp_threaded_node.specs.Outlets.{taker_in, keeps_in}
use Rattle.scp_threaded_node.proofs.Given.{map_set, lanes_given, acted_in, acted_keeps}
use Rattle.scp_gather.specs.scp_shared_outbox.proofs.ListsOfAll.{some_is}
use Rattle.scp_threaded_node.proofs.Staying.{acts_runs, unchanged_runs}
use Rattle.scp_threaded_node.proofs.acting.act_at.Goals as goal

-- it was done, or nothing was
by_result : {X : Type 0} (P Q C : Type 0) (r : Result X Fault) → OnOk r P → OnErr r Q → (P → C) → (Q → C) → C
by_result P Q C (Ok x) p q f g = f p
by_result P Q C (Err e) p q f g = g q

pub returns-clause-runs : goal.returns-clause-runs
returns-clause-runs g c = λ me set peers caps r.
    let x = c.args.node.now in
    let lanes = x.lanes.items in
    let place = c.args.place in
    let lane = c.index_mut.result.now in
    let after = c.act_on_lane.new.lane in
    let was : slice_get lanes place ≡ Some lane = slice_get-get_or lanes place lane (omega (arith, c.requires.place)) ∙ ap (λ (z : Running). Some z) (sym c.index_mut.ensures.value) in
    by_result (after ≡ record lane { tail = acted c.args.act lane.tail }) (after ≡ lane) _ c.act_on_lane.result c.act_on_lane.ensures.acted c.act_on_lane.ensures.same
    (λ done. acts_runs me set peers caps c.args.act place x _ (record { same = refl; lane = lane; was = was; is = ap (slice_set lanes place) done }) r)
    (λ same. unchanged_runs me set peers caps x _ (record { same = refl; lanes = ap (slice_set lanes place) same ∙ set_same lanes place lane was }) r)

pub returns-clause-given : goal.returns-clause-given
returns-clause-given g c =
    let x = c.args.node.now in
    let lanes = x.lanes.items in
    let place = c.args.place in
    let lane = c.index_mut.result.now in
    let after = c.act_on_lane.new.lane in
    let was : slice_get lanes place ≡ Some lane = slice_get-get_or lanes place lane (omega (arith, c.requires.place)) ∙ ap (λ (z : Running). Some z) (sym c.index_mut.ensures.value) in
    by_result (after ≡ record lane { tail = acted c.args.act lane.tail }) (after ≡ lane) _ c.act_on_lane.result c.act_on_lane.ensures.acted c.act_on_lane.ensures.same
    (λ done. lanes_given x (slice_set lanes place after) (map_set taker_in lanes place lane after was (acted_in c.args.act lane after done)) (map_set keeps_in lanes place lane after was (acted_keeps c.args.act lane after done)))
    (λ same. lanes_given x (slice_set lanes place after) (map_set taker_in lanes place lane after was (ap taker_in same)) (map_set keeps_in lanes place lane after was (ap keeps_in same)))

pub returns-clause-why : goal.returns-clause-why
returns-clause-why g c = λ lane at.
    let here = c.index_mut.result.now in
    let was : slice_get c.args.node.now.lanes.items c.args.place ≡ Some here = slice_get-get_or c.args.node.now.lanes.items c.args.place here (omega (arith, c.requires.place)) ∙ ap (λ (z : Running). Some z) (sym c.index_mut.ensures.value) in
    subst (λ (z : Running). MatchResult c.act_on_lane.result (λ _. CanAct c.args.act z.tail) (IsActFault c.args.act z.tail)) (some_is here lane (sym was ∙ at)) c.act_on_lane.ensures.why
