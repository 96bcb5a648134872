use Rattle.std.proofs.Common.{◌≡◌, ℕ, ◌+◌, ◌^◌, ◌≤◌, Bool, List, length, arith, sym, ap, subst}
use Rattle.std.specs.List.{All, Contains}
use Rattle.std.proofs.Math.Path.{fun_ext}
use Rattle.std.proofs.lemmas.List.Elements.{All-contains, All-weaker}
use Rattle.std.proofs.lemmas.Result.{IfOk-weaker, on_ok_weaker}
use Rattle.scp_quorum.specs.scp_types.specs.declared.names.NodeId.{NodeId}
use Rattle.scp_quorum.specs.NodeSet.{is_in}
use Rattle.scp_quorum_search.specs.declared.meeting.Meeting.{Meeting}
use Rattle.scp_quorum_search.specs.declared.quest.Look.{Look}
use Rattle.scp_quorum_search.specs.inside.Search.{NoneBetween, IsLook, Finds, is_or_in}
use Rattle.scp_quorum_search.proofs.Branching.{none_left, wider, finds_wider, node_in, rest_in, all_rest_in, listed_with}
use Rattle.scp_quorum_search.proofs.Counting.{power_suc, power_more, two_of}
use Rattle.scp_quorum_search.proofs.search.+searching.Goals as goal

-- ---- one look

pub search-returns-then-not-try_once-clause-few : goal.search-returns-then-not-try_once-clause-few
search-returns-then-not-try_once-clause-few t c = omega (arith, c.try_once.ensures.one, two_of (length c.args.left.now))

pub search-returns-in-Dead-clause-few : goal.search-returns-in-Dead-clause-few
search-returns-in-Dead-clause-few t c = omega (arith, c.try_once.ensures.one, two_of (length c.args.left.now))

pub search-returns-in-Apart-clause-few : goal.search-returns-in-Apart-clause-few
search-returns-in-Apart-clause-few t c = omega (arith, c.try_once.ensures.one, two_of (length c.args.left.now))

pub search-search_left-requires : goal.search-search_left-requires
search-search_left-requires t c =
    let all = c.args.quest.now.all.now in
    let L : Look → Type 0 = λ seen. IsLook c.args.quest.now (is_in c.args.chosen.now) c.args.left.now seen in
    let shown = subst L c.in-Left.is c.in_ok-seen.ensures in
    let fewer : length c.as_slice.result.now ≤ length c.args.left.now = omega (arith, c.as_slice.ensures.len, shown.1) in
    let Q : List NodeId → Type 0 = λ vs. All (Contains all) vs in (
      omega (arith, fewer),
      (
        c.requires.chosen,
        (
          subst Q (sym c.as_slice.ensures.value)
              (All-weaker (Contains c.args.left.now) (Contains all) (λ v has. All-contains (Contains all) c.args.left.now v c.requires.left has) c.in-Left.next.items shown.0),
          shown.3,
        ),
      ),
    )

pub search-returns-in-Left-clause-finds : goal.search-returns-in-Left-clause-finds
search-returns-in-Left-clause-finds t c =
    let L : Look → Type 0 = λ seen. IsLook c.args.quest.now (is_in c.args.chosen.now) c.args.left.now seen in
    let shown = subst L c.in-Left.is c.in_ok-seen.ensures in
    let chosen : NodeId → Bool = is_in c.args.chosen.now in
    let P : List NodeId → Type 0 = λ vs. (found : Meeting) → Finds c.args.quest.now chosen vs c.search_left.new.tries found → Finds c.args.quest.now chosen c.args.left.now c.search_left.new.tries found in
    IfOk-weaker c.search_left.result _ _
    (subst P (sym c.as_slice.ensures.value) (λ found finds. finds_wider c.args.quest.now chosen c.args.left.now c.in-Left.next.items c.search_left.new.tries found shown.2 finds))
    c.search_left.ensures.finds

pub search-returns-in-Left-clause-few : goal.search-returns-in-Left-clause-few
search-returns-in-Left-clause-few t c =
    let L : Look → Type 0 = λ seen. IsLook c.args.quest.now (is_in c.args.chosen.now) c.args.left.now seen in
    let shown = subst L c.in-Left.is c.in_ok-seen.ensures in
    let fewer : length c.as_slice.result.now ≤ length c.args.left.now = omega (arith, c.as_slice.ensures.len, shown.1) in
    on_ok_weaker c.search_left.result
    (λ few. omega (arith, few, c.try_once.ensures.one, power_more (length c.as_slice.result.now) (length c.args.left.now) fewer))
    c.search_left.ensures.few

-- ---- one node more, or without those like it

pub search_left-returns-in_default-clause-finds : goal.search_left-returns-in_default-clause-finds
search_left-returns-in_default-clause-finds t c =
    none_left c.args.quest.now (is_in c.args.chosen.now) c.args.left.now c.requires.none c.in_default.ensures.cases

pub search_left-search-requires : goal.search_left-search-requires
search_left-search-requires t c =
    let quest = c.args.quest.now in
    let chosen : NodeId → Bool = is_in c.args.chosen.now in
    let node = c.in-Some.node.now in
    let is = c.in-Some.ensures.cases.0 in
    let here = node_in quest chosen c.args.left.now c.in-Some.rest.now node c.requires.left is in (
      omega (arith, c.in-Some.ensures.cases.1),
      (
        listed_with quest.all.now node chosen (is_in c.in_ok-more.more) here c.in_ok-more.ensures c.requires.chosen,
        all_rest_in quest chosen c.args.left.now c.in-Some.rest.now node c.requires.left is,
      ),
    )

pub search_left-returns-in-Disjoint-clause-few : goal.search_left-returns-in-Disjoint-clause-few
search_left-returns-in-Disjoint-clause-few t c =
    let n = length c.in-Some.rest.now in
    let is : length c.args.left.now ≡ n + 1 = omega (arith, c.in-Some.ensures.cases.1) in
    let more : 2 ^ (length c.args.left.now + 1) ≡ 2 ^ (n + 1 + 1) = ap (λ (k : ℕ). 2 ^ (k + 1)) is in
    omega (arith, more, c.in_ok-found.ensures.few, power_suc (n + 1), two_of n)

pub search_left-returns-in-Unknown-clause-few : goal.search_left-returns-in-Unknown-clause-few
search_left-returns-in-Unknown-clause-few t c =
    let n = length c.in-Some.rest.now in
    let is : length c.args.left.now ≡ n + 1 = omega (arith, c.in-Some.ensures.cases.1) in
    let more : 2 ^ (length c.args.left.now + 1) ≡ 2 ^ (n + 1 + 1) = ap (λ (k : ℕ). 2 ^ (k + 1)) is in
    omega (arith, more, c.in_ok-found.ensures.few, power_suc (n + 1), two_of n)

pub search_left-search-requires-in-Intersect : goal.search_left-search-requires-in-Intersect
search_left-search-requires-in-Intersect t c =
    let quest = c.args.quest.now in
    let is = c.in-Some.ensures.cases.0 in
    let Q : List NodeId → Type 0 = λ vs. All (Contains quest.all.now) vs in (
      omega (arith, c.in-Some.ensures.cases.1, c.as_slice.ensures.len, c.in_ok-others-in-Intersect.ensures.no_more),
      (
        c.requires.chosen,
        subst Q (sym c.as_slice.ensures.value)
            (All-weaker (Contains c.in-Some.rest.now) (Contains quest.all.now) (rest_in quest (is_in c.args.chosen.now) c.args.left.now c.in-Some.rest.now c.in-Some.node.now c.requires.left is) c.in_ok-others-in-Intersect.others.items c.in_ok-others-in-Intersect.ensures.each),
      ),
    )

pub search_left-returns-clause-finds : goal.search_left-returns-clause-finds
search_left-returns-clause-finds t c =
    let quest = c.args.quest.now in
    let chosen : NodeId → Bool = is_in c.args.chosen.now in
    let node = c.in-Some.node.now in
    let rest = c.in-Some.rest.now in
    let tries = c.search-in-Intersect.new.tries in
    let F : Meeting → Type 0 = λ found. Finds quest (is_in c.in_ok-more.more) rest c.search.new.tries found in
    let R : (NodeId → Bool) → Type 0 = λ us. NoneBetween quest us rest in
    let with_it : NoneBetween quest (is_or_in node chosen) rest = subst R (fun_ext c.in_ok-more.ensures) (subst F c.in-Intersect.is c.in_ok-found.ensures.finds) in
    let P : List NodeId → Type 0 = λ vs. (found : Meeting) → Finds quest chosen vs tries found → Finds quest chosen c.args.left.now tries found in
    IfOk-weaker c.search-in-Intersect.result _ _
    (subst P (sym c.as_slice.ensures.value) (wider quest chosen c.args.left.now rest node c.requires.left c.in-Some.ensures.cases.0 c.in_ok-others-in-Intersect.others.items tries c.in_ok-others-in-Intersect.ensures.all with_it))
    c.search-in-Intersect.ensures.finds

pub search_left-returns-clause-few : goal.search_left-returns-clause-few
search_left-returns-clause-few t c =
    let n = length c.in-Some.rest.now in
    let is : length c.args.left.now ≡ n + 1 = omega (arith, c.in-Some.ensures.cases.1) in
    let fewer : length c.as_slice.result.now ≤ n = omega (arith, c.as_slice.ensures.len, c.in_ok-others-in-Intersect.ensures.no_more) in
    let more : 2 ^ (length c.args.left.now + 1) ≡ 2 ^ (n + 1 + 1) = ap (λ (k : ℕ). 2 ^ (k + 1)) is in
    on_ok_weaker c.search-in-Intersect.result
    (λ few. omega (arith, more, few, c.in_ok-found.ensures.few, power_suc (n + 1), power_more (length c.as_slice.result.now) n fewer))
    c.search-in-Intersect.ensures.few
