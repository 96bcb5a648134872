use Rattle.std.proofs.Common.{◌≡◌, ◌≤◌, List, length, arith, sym, ap, subst}
use Rattle.std.specs.List.{All, Contains}
use Rattle.std.proofs.lemmas.Result.{IfOk-weaker, on_ok_weaker}
use Rattle.scp_quorum.specs.scp_types.specs.declared.names.NodeId.{NodeId}
use Rattle.scp_quorum.specs.NodeSet.{is_in}
use Rattle.scp_quorum_search.proofs.Sets.{empty_has_none}
use Rattle.scp_quorum_search.proofs.Counting.{power_more}
use Rattle.scp_quorum_search.proofs.MostLost.{few_of_one}
use Rattle.scp_quorum_search.proofs.surviving.few_halt_one.Goals as goal

pub returns-clause-shows : goal.returns-clause-shows
returns-clause-shows c =
    let L : List NodeId → Type 0 = λ vs. All (λ v. (v ≡ c.args.at.now → ⊥) → Contains vs v) c.args.quest.now.all.now in
    IfOk-weaker c.few_halt.result _ _
    (few_of_one c.args.quest.now c.args.at.now c.args.count (is_in c.new-lost.result) c.as_slice.result.now c.few_halt.new.tries (empty_has_none c.new-lost.result c.new-lost.ensures.empty)
    (subst L (sym c.as_slice.ensures.value) c.in_ok-left.ensures.all))
    c.few_halt.ensures.shows

pub returns-clause-few : goal.returns-clause-few
returns-clause-few c =
    let fewer : length c.as_slice.result.now ≤ length c.args.quest.now.all.now = omega (arith, ap length c.as_slice.ensures.value, c.in_ok-left.ensures.no_more) in
    on_ok_weaker c.few_halt.result
    (λ few. omega (arith, few, power_more (length c.as_slice.result.now) (length c.args.quest.now.all.now) fewer))
    c.few_halt.ensures.few
