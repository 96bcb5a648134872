use Rattle.std.proofs.Common.{◌≡◌, ℕ, ◌+◌, ◌^◌, ◌≤◌, Bool, List, length, arith, sym, ◌∙◌, ap, subst}
use Rattle.std.specs.List.{All, Contains}
use Rattle.std.proofs.Math.Path.{fun_ext}
use Rattle.std.proofs.lemmas.Bool.{iff_false}
use Rattle.std.proofs.lemmas.List.Elements.{All-weaker}
use Rattle.std.proofs.lemmas.Result.{IfOk-weaker, on_ok_weaker}
use Rattle.scp_quorum.specs.scp_types.specs.declared.names.NodeId.{NodeId}
use Rattle.scp_quorum.specs.NodeSet.{is_in}
use Rattle.scp_quorum_search.specs.declared.few.Few.{Few}
use Rattle.scp_quorum_search.specs.inside.Search.{is_or_in}
use Rattle.scp_quorum_search.specs.inside.Losses.{AreOthers, ShowsFew}
use Rattle.scp_quorum_search.proofs.Branching.{node_in, rest_in, all_rest_in, listed_with}
use Rattle.scp_quorum_search.proofs.Counting.{power_suc, power_more, two_of}
use Rattle.scp_quorum_search.proofs.Losing.{first_other, other_behind, still_kept}
use Rattle.scp_quorum_search.proofs.Fewest.{NoneFew, none_over, none_inside, few_wider, others_of_others}
use Rattle.scp_quorum_search.proofs.few.+few_halt.Goals as goal

pub returns-then-count_lost-count-clause-shows : goal.returns-then-count_lost-count-clause-shows
returns-then-count_lost-count-clause-shows t c =
    none_over c.args.quest.now c.args.at.now c.args.count (is_in c.args.lost.now) c.args.left.now (omega (arith, c.count_lost.ensures, c.if-count_lost-count.true))

pub returns-then-count_lost-count-clause-few : goal.returns-then-count_lost-count-clause-few
returns-then-count_lost-count-clause-few t c = omega (arith, c.try_once.ensures.one, two_of (length c.args.left.now))

pub returns-then-not-goes-clause-shows : goal.returns-then-not-goes-clause-shows
returns-then-not-goes-clause-shows t c = (
  is_in c.args.lost.now,
  (
    record { listed = c.requires.lost; others = c.requires.kept; halts = iff_false c.in_ok-goes.ensures c.if-not-goes.true },
    omega (arith, c.count_lost.ensures, c.if-count_lost-count.false),
  ),
)

pub returns-then-not-goes-clause-few : goal.returns-then-not-goes-clause-few
returns-then-not-goes-clause-few t c = omega (arith, c.try_once.ensures.one, two_of (length c.args.left.now))

pub returns-then-goes_without_all-clause-shows : goal.returns-then-goes_without_all-clause-shows
returns-then-goes_without_all-clause-shows t c =
    none_inside c.args.quest.now c.args.at.now c.args.count (is_in c.args.lost.now) c.args.left.now (is_in c.in_ok-most.most) c.in_ok-most.ensures.chosen c.in_ok-most.ensures.left (c.in_ok-goes_without_all.ensures.0 c.if-goes_without_all.true)

pub returns-then-goes_without_all-clause-few : goal.returns-then-goes_without_all-clause-few
returns-then-goes_without_all-clause-few t c = omega (arith, c.try_once.ensures.one, two_of (length c.args.left.now))

pub few_halt-requires : goal.few_halt-requires
few_halt-requires t c =
    let all = c.args.quest.now.all.now in
    let lost : NodeId → Bool = is_in c.args.lost.now in
    let node = c.in-Some.node.now in
    let is = c.in-Some.ensures.cases.0 in
    let here = node_in c.args.quest.now lost c.args.left.now c.in-Some.rest.now node c.requires.left is in (
      omega (arith, c.in-Some.ensures.cases.1),
      (
        listed_with all node lost (is_in c.in_ok-more.more) here c.in_ok-more.ensures c.requires.lost,
        (
          c.in_ok-more.ensures c.args.at.now ∙ still_kept c.args.at.now node lost (first_other c.args.at.now c.args.left.now c.in-Some.rest.now node is c.requires.others) c.requires.kept,
          (
            all_rest_in c.args.quest.now lost c.args.left.now c.in-Some.rest.now node c.requires.left is,
            other_behind c.args.at.now c.args.left.now c.in-Some.rest.now node is c.requires.others,
          ),
        ),
      ),
    )

pub returns-in-Halt-clause-few : goal.returns-in-Halt-clause-few
returns-in-Halt-clause-few t c =
    let n = length c.in-Some.rest.now in
    let is : length c.args.left.now ≡ n + 1 = omega (arith, c.in-Some.ensures.cases.1) in
    let more : 2 ^ (length c.args.left.now + 1) ≡ 2 ^ (n + 1 + 1) = ap (λ (k : ℕ). 2 ^ (k + 1)) is in
    omega (arith, more, c.in_ok-found.ensures.few, c.try_once.ensures.one, power_suc (n + 1), two_of n)

pub returns-in-Unknown-clause-few : goal.returns-in-Unknown-clause-few
returns-in-Unknown-clause-few t c =
    let n = length c.in-Some.rest.now in
    let is : length c.args.left.now ≡ n + 1 = omega (arith, c.in-Some.ensures.cases.1) in
    let more : 2 ^ (length c.args.left.now + 1) ≡ 2 ^ (n + 1 + 1) = ap (λ (k : ℕ). 2 ^ (k + 1)) is in
    omega (arith, more, c.in_ok-found.ensures.few, c.try_once.ensures.one, power_suc (n + 1), two_of n)

pub few_halt-requires-in-Survive : goal.few_halt-requires-in-Survive
few_halt-requires-in-Survive t c =
    let quest = c.args.quest.now in
    let at = c.args.at.now in
    let is = c.in-Some.ensures.cases.0 in
    let rest = c.in-Some.rest.now in
    let Q : List NodeId → Type 0 = λ vs. All (Contains quest.all.now) vs in
    let O : List NodeId → Type 0 = λ vs. AreOthers at vs in (
      omega (arith, c.in-Some.ensures.cases.1, c.as_slice.ensures.len, c.in_ok-others-in-Survive.ensures.no_more),
      (
        c.requires.lost,
        (
          c.requires.kept,
          (
            subst Q (sym c.as_slice.ensures.value)
                (All-weaker (Contains rest) (Contains quest.all.now) (rest_in quest (is_in c.args.lost.now) c.args.left.now rest c.in-Some.node.now c.requires.left is) c.in_ok-others-in-Survive.others.items c.in_ok-others-in-Survive.ensures.each),
            subst O (sym c.as_slice.ensures.value) (others_of_others at rest c.in_ok-others-in-Survive.others.items (other_behind at c.args.left.now rest c.in-Some.node.now is c.requires.others) c.in_ok-others-in-Survive.ensures.each),
          ),
        ),
      ),
    )

pub returns-clause-shows : goal.returns-clause-shows
returns-clause-shows t c =
    let quest = c.args.quest.now in
    let at = c.args.at.now in
    let lost : NodeId → Bool = is_in c.args.lost.now in
    let node = c.in-Some.node.now in
    let rest = c.in-Some.rest.now in
    let tries = c.few_halt-in-Survive.new.tries in
    let F : Few → Type 0 = λ found. ShowsFew quest at c.args.count (is_in c.in_ok-more.more) rest c.few_halt.new.tries found in
    let R : (NodeId → Bool) → Type 0 = λ us. NoneFew quest at c.args.count us rest in
    let with_it : NoneFew quest at c.args.count (is_or_in node lost) rest = subst R (fun_ext c.in_ok-more.ensures) (subst F c.in-Survive.is c.in_ok-found.ensures.shows) in
    let P : List NodeId → Type 0 = λ vs. (found : Few) → ShowsFew quest at c.args.count lost vs tries found → ShowsFew quest at c.args.count lost c.args.left.now tries found in
    IfOk-weaker c.few_halt-in-Survive.result _ _
    (subst P (sym c.as_slice.ensures.value) (few_wider quest at c.args.count lost c.args.left.now rest node c.requires.left c.requires.others c.in-Some.ensures.cases.0 c.in_ok-others-in-Survive.others.items tries c.in_ok-others-in-Survive.ensures.all with_it))
    c.few_halt-in-Survive.ensures.shows

pub returns-clause-few : goal.returns-clause-few
returns-clause-few t c =
    let n = length c.in-Some.rest.now in
    let is : length c.args.left.now ≡ n + 1 = omega (arith, c.in-Some.ensures.cases.1) in
    let fewer : length c.as_slice.result.now ≤ n = omega (arith, c.as_slice.ensures.len, c.in_ok-others-in-Survive.ensures.no_more) in
    let more : 2 ^ (length c.args.left.now + 1) ≡ 2 ^ (n + 1 + 1) = ap (λ (k : ℕ). 2 ^ (k + 1)) is in
    on_ok_weaker c.few_halt-in-Survive.result
    (λ few. omega (arith, more, few, c.in_ok-found.ensures.few, c.try_once.ensures.one, power_suc (n + 1), power_more (length c.as_slice.result.now) n fewer))
    c.few_halt-in-Survive.ensures.few
