use Rattle.std.proofs.Common.{◌≡◌, ◌+◌, false, List, take, refl, arith, sym, ◌∙◌, ap, subst}
use Rattle.std.specs.List.{Any}
use Rattle.scp_quorum.specs.NodeSet.{is_in}
use Rattle.scp_quorum_search.specs.declared.order.Ranked.{Ranked}
use Rattle.scp_quorum_search.proofs.Ordering.{IsRanking, ranking_none, ranking_adds, ranking_skips}
use Rattle.scp_quorum_search.proofs.Sets.{all_seen}
use Rattle.scp_quorum_search.proofs.order.rank_all.Goals as goal
use Rattle.scp_quorum_search.proofs.order.rank_all.Goals.{then-not-contains+in_ok-push, else-not-contains}

pub loop-member-init : goal.loop-member-init
loop-member-init c =
    let P : List Ranked → Type 0 = λ rs. IsRanking (is_in c.args.liars.now) c.args.members.now rs (take 0 c.args.members.now) 0 in
    subst P (sym c.new-found.ensures.items) (ranking_none (is_in c.args.liars.now) c.args.members.now)

pub loop-member-preserved : goal.loop-member-preserved
loop-member-preserved c =
    let members = c.args.members.now in
    let liars = is_in c.args.liars.now in
    let i = c.loop-member.member-index in
    let P : List Ranked → Type 0 = λ rs. IsRanking liars members rs (take (i + 1) members) (i + 1) in
    elim c.if-not-contains.branch [
      | then-not-contains+in_ok-push w ↦
          ranking_adds liars members c.loop-member.found.items i c.member-item.result c.loop-member-test.true c.member-item.is c.loop-member.invariant c.if-not-contains.found.items _ (ap (λ f. f.items) w.found-is ∙ w.in_ok-push.ensures.items) refl (sym c.contains.ensures ∙ w.if-not-contains.true)
      | else-not-contains w ↦
          subst P (sym (ap (λ f. f.items) w.found-is)) (ranking_skips liars members c.loop-member.found.items i c.member-item.result c.loop-member-test.true c.member-item.is c.loop-member.invariant (sym c.contains.ensures ∙ w.if-not-contains.false))
    ]

pub returns-clause-each : goal.returns-clause-each
returns-clause-each c = c.loop-member.invariant.each

pub returns-clause-honest : goal.returns-clause-honest
returns-clause-honest c = c.loop-member.invariant.honest

pub returns-clause-all : goal.returns-clause-all
returns-clause-all c =
    all_seen (λ m. is_in c.args.liars.now m.node ≡ false → Any (λ r. r.node ≡ m.node) c.loop-member.found.items) c.args.members.now c.loop-member.member-index (omega arith) c.loop-member.invariant.all

pub returns-clause-no_more : goal.returns-clause-no_more
returns-clause-no_more c = omega (arith, c.loop-member.invariant.few)
