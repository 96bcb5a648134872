use Rattle.std.proofs.Common.{◌≡◌, ◌+◌, ◌⊎◌, false, List, take, arith, sym, ◌∙◌, ap, subst}
use Rattle.std.specs.List.{Contains}
use Rattle.scp_quorum.specs.scp_types.specs.declared.names.NodeId.{NodeId}
use Rattle.scp_quorum.specs.NodeSet.{is_in}
use Rattle.scp_quorum_search.proofs.Sets.{no_node, IsSifting, sifting_none, sifting_keeps, sifting_drops, sifted, all_seen}
use Rattle.scp_quorum_search.proofs.search.those_in.Goals as goal
use Rattle.scp_quorum_search.proofs.search.those_in.Goals.{then-contains+in_ok-push, else-contains}

pub loop-node-init : goal.loop-node-init
loop-node-init c =
    let P : List NodeId → Type 0 = λ vs. IsSifting c.args.left.now (λ v. is_in c.args.nodes.now v ≡ false) vs (take 0 c.args.left.now) 0 in
    subst P (sym c.new-found.ensures.items) (sifting_none c.args.left.now (λ v. is_in c.args.nodes.now v ≡ false))

pub loop-node-preserved : goal.loop-node-preserved
loop-node-preserved c =
    let left = c.args.left.now in
    let i = c.loop-node.node-index in
    let P : List NodeId → Type 0 = λ vs. IsSifting left (λ v. is_in c.args.nodes.now v ≡ false) vs (take (i + 1) left) (i + 1) in
    elim c.if-contains.branch [
      | then-contains+in_ok-push w ↦
          sifting_keeps left (λ v. is_in c.args.nodes.now v ≡ false) c.loop-node.found.items i no_node c.loop-node-test.true c.loop-node.invariant c.if-contains.found.items (ap (λ f. f.items) w.found-is ∙ w.in_ok-push.ensures.items)
      | else-contains w ↦
          subst P (sym (ap (λ f. f.items) w.found-is)) (sifting_drops left (λ v. is_in c.args.nodes.now v ≡ false) c.loop-node.found.items i no_node c.loop-node-test.true c.loop-node.invariant (sym c.contains.ensures ∙ w.if-contains.false))
    ]

pub returns-clause-each : goal.returns-clause-each
returns-clause-each c = c.loop-node.invariant.each

pub returns-clause-all : goal.returns-clause-all
returns-clause-all c =
    sifted (is_in c.args.nodes.now) c.loop-node.found.items c.args.left.now
    (all_seen (λ v. Contains c.loop-node.found.items v ⊎ (is_in c.args.nodes.now v ≡ false)) c.args.left.now c.loop-node.node-index (omega arith) c.loop-node.invariant.all)

pub returns-clause-no_more : goal.returns-clause-no_more
returns-clause-no_more c = omega (arith, c.loop-node.invariant.few)
