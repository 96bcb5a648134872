use Rattle.std.proofs.Common.{◌≡◌, ℕ, ◌+◌, ◌^◌, Bool, length, arith, ◌∙◌, ap, subst}
use Rattle.std.proofs.Math.Path.{fun_ext}
use Rattle.std.proofs.lemmas.Bool.{iff_false, OnTrue_at, OnTrue_from}
use Rattle.scp_quorum.specs.scp_types.specs.declared.names.NodeId.{NodeId}
use Rattle.scp_quorum.specs.NodeSet.{is_in}
use Rattle.scp_quorum_search.specs.inside.Losses.{AllGathered}
use Rattle.scp_quorum_search.proofs.Branching.{node_in, all_rest_in, listed_with}
use Rattle.scp_quorum_search.proofs.Counting.{power_suc, two_of}
use Rattle.scp_quorum_search.proofs.Losing.{gathered_here, gathered_none, gathered_both, gathered_kept, first_other, other_behind, still_kept}
use Rattle.scp_quorum_search.proofs.halting.+gather.Goals as goal

pub returns-then-not-try_once-clause-few : goal.returns-then-not-try_once-clause-few
returns-then-not-try_once-clause-few t c = omega (arith, c.try_once.ensures.one, two_of (length c.args.left.now))

pub returns-then-not-goes-clause-all : goal.returns-then-not-goes-clause-all
returns-then-not-goes-clause-all t c =
    gathered_here c.args.quest.now c.args.at.now (is_in c.args.lost.now) c.args.left.now c.add_if_smallest.new.found.items (iff_false c.in_ok-goes.ensures c.if-not-goes.true) c.in_ok-add_if_smallest.ensures.added

pub returns-then-not-goes-clause-few : goal.returns-then-not-goes-clause-few
returns-then-not-goes-clause-few t c = omega (arith, c.try_once.ensures.one, two_of (length c.args.left.now))

pub returns-then-goes_without_all-clause-all : goal.returns-then-goes_without_all-clause-all
returns-then-goes_without_all-clause-all t c =
    gathered_none c.args.quest.now c.args.at.now (is_in c.args.lost.now) c.args.left.now c.args.found.now.items (is_in c.in_ok-most.most) c.in_ok-most.ensures.chosen c.in_ok-most.ensures.left (c.in_ok-goes_without_all.ensures.0 c.if-goes_without_all.true)

pub returns-then-goes_without_all-clause-few : goal.returns-then-goes_without_all-clause-few
returns-then-goes_without_all-clause-few t c = omega (arith, c.try_once.ensures.one, two_of (length c.args.left.now))

pub gather-requires : goal.gather-requires
gather-requires t c =
    let all = c.args.quest.now.all.now in
    let lost : NodeId → Bool = is_in c.args.lost.now in
    let node = c.in-Some.node.now in
    let is = c.in-Some.ensures.cases.0 in
    let here = node_in c.args.quest.now lost c.args.left.now c.in-Some.rest.now node c.requires.left is in (
      omega (arith, c.in-Some.ensures.cases.1),
      (
        listed_with all node lost (is_in c.in_ok-more.more) here c.in_ok-more.ensures c.requires.lost,
        (
          c.in_ok-more.ensures c.args.at.now ∙ still_kept c.args.at.now node lost (first_other c.args.at.now c.args.left.now c.in-Some.rest.now node is c.requires.others) c.requires.kept,
          (
            all_rest_in c.args.quest.now lost c.args.left.now c.in-Some.rest.now node c.requires.left is,
            other_behind c.args.at.now c.args.left.now c.in-Some.rest.now node is c.requires.others,
          ),
        ),
      ),
    )

pub returns-then-not-done-clause-few : goal.returns-then-not-done-clause-few
returns-then-not-done-clause-few t c =
    let n = length c.in-Some.rest.now in
    let is : length c.args.left.now ≡ n + 1 = omega (arith, c.in-Some.ensures.cases.1) in
    let more : 2 ^ (length c.args.left.now + 1) ≡ 2 ^ (n + 1 + 1) = ap (λ (k : ℕ). 2 ^ (k + 1)) is in
    omega (arith, more, c.in_ok-done.ensures.few, c.try_once.ensures.one, power_suc (n + 1), two_of n)

pub gather-requires-2 : goal.gather-requires-2
gather-requires-2 t c =
    let is = c.in-Some.ensures.cases.0 in (
      omega (arith, c.in-Some.ensures.cases.1),
      (
        c.requires.lost,
        (
          c.requires.kept,
          (
            all_rest_in c.args.quest.now (is_in c.args.lost.now) c.args.left.now c.in-Some.rest.now c.in-Some.node.now c.requires.left is,
            other_behind c.args.at.now c.args.left.now c.in-Some.rest.now c.in-Some.node.now is c.requires.others,
          ),
        ),
      ),
    )

pub returns-clause-each : goal.returns-clause-each
returns-clause-each t c so_far = c.in_ok-all.ensures.each (c.in_ok-done.ensures.each so_far)

pub returns-clause-all : goal.returns-clause-all
returns-clause-all t c =
    let quest = c.args.quest.now in
    let at = c.args.at.now in
    let lost : NodeId → Bool = is_in c.args.lost.now in
    let node = c.in-Some.node.now in
    let rest = c.in-Some.rest.now in
    let found = c.gather-2.new.found.items in
    let P : (NodeId → Bool) → Type 0 = λ t. AllGathered quest at t rest found in
    let first = gathered_kept quest at (is_in c.in_ok-more.more) rest c.gather.new.found.items found c.in_ok-all.ensures.kept (OnTrue_at c.if-not-done.false c.in_ok-done.ensures.all) in
    OnTrue_from c.in_ok-all.all _
    (λ all. gathered_both quest at lost c.args.left.now found node rest c.in-Some.ensures.cases.0 (subst P (fun_ext c.in_ok-more.ensures) first) (OnTrue_at all c.in_ok-all.ensures.all))
