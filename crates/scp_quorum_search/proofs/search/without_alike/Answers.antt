use Rattle.std.proofs.Common.{◌+◌, ◌⊎◌, List, take, arith, sym, ◌∙◌, ap, subst}
use Rattle.std.specs.List.{Contains}
use Rattle.std.proofs.lemmas.Bool.{OnTrue_at}
use Rattle.scp_quorum.specs.scp_types.specs.declared.names.NodeId.{NodeId}
use Rattle.scp_quorum.specs.NodeSet.{is_in}
use Rattle.scp_quorum_search.specs.inside.Search.{MaySwap}
use Rattle.scp_quorum_search.proofs.Sets.{no_node, IsSifting, sifting_none, sifting_keeps, sifting_drops, all_seen}
use Rattle.scp_quorum_search.proofs.search.without_alike.Goals as goal
use Rattle.scp_quorum_search.proofs.search.without_alike.Goals.{then-not-may_swap+in_ok-push, else-not-may_swap}

pub loop-other-init : goal.loop-other-init
loop-other-init c =
    let Dropped : NodeId → Type 0 = MaySwap (is_in c.args.quest.now.liars.now) c.args.quest.now.members.now c.args.node.now in
    let P : List NodeId → Type 0 = λ vs. IsSifting c.args.left.now Dropped vs (take 0 c.args.left.now) 0 in
    subst P (sym c.new-found.ensures.items) (sifting_none c.args.left.now Dropped)

pub loop-other-preserved : goal.loop-other-preserved
loop-other-preserved c =
    let left = c.args.left.now in
    let i = c.loop-other.other-index in
    let Dropped : NodeId → Type 0 = MaySwap (is_in c.args.quest.now.liars.now) c.args.quest.now.members.now c.args.node.now in
    let P : List NodeId → Type 0 = λ vs. IsSifting left Dropped vs (take (i + 1) left) (i + 1) in
    elim c.if-not-may_swap.branch [
      | then-not-may_swap+in_ok-push w ↦
          sifting_keeps left Dropped c.loop-other.found.items i no_node c.loop-other-test.true c.loop-other.invariant c.if-not-may_swap.found.items (ap (λ f. f.items) w.found-is ∙ w.in_ok-push.ensures.items)
      | else-not-may_swap w ↦
          subst P (sym (ap (λ f. f.items) w.found-is)) (sifting_drops left Dropped c.loop-other.found.items i no_node c.loop-other-test.true c.loop-other.invariant (OnTrue_at w.if-not-may_swap.false c.may_swap.ensures))
    ]

pub returns-clause-each : goal.returns-clause-each
returns-clause-each c = c.loop-other.invariant.each

pub returns-clause-all : goal.returns-clause-all
returns-clause-all c =
    all_seen (λ v. Contains c.loop-other.found.items v ⊎ MaySwap (is_in c.args.quest.now.liars.now) c.args.quest.now.members.now c.args.node.now v) c.args.left.now c.loop-other.other-index (omega arith) c.loop-other.invariant.all

pub returns-clause-no_more : goal.returns-clause-no_more
returns-clause-no_more c = omega (arith, c.loop-other.invariant.few)
