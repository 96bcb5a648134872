use Rattle.std.proofs.Common.{◌≡◌, ◌+◌, ◌⊎◌, ◌∷◌, [], ◌++◌, List, take, get_or, arith, sym, ◌∙◌, ap, subst}
use Rattle.std.specs.List.{Contains}
use Rattle.std.proofs.lemmas.List.Elements.{All-nil, All-push}
use Rattle.scp_quorum.specs.scp_types.specs.declared.names.NodeId.{NodeId}
use Rattle.scp_quorum_search.specs.inside.Losses.{AreOthers}
use Rattle.scp_quorum_search.proofs.Sets.{no_node, IsSifting, sifting_none, sifting_keeps, sifting_drops, all_seen}
use Rattle.scp_quorum_search.proofs.Nodes.{node_off, node_not_off}
use Rattle.scp_quorum_search.proofs.Losing.{but_this}
use Rattle.scp_quorum_search.proofs.halting.others_of.Goals as goal
use Rattle.scp_quorum_search.proofs.halting.others_of.Goals.{then-ne+in_ok-push, else-ne}

pub loop-node-init : goal.loop-node-init
loop-node-init c =
    let P : List NodeId → Type 0 = λ vs. IsSifting c.args.all.now (λ v. v ≡ c.args.at.now) vs (take 0 c.args.all.now) 0 in
    let O : List NodeId → Type 0 = λ vs. AreOthers c.args.at.now vs in
    record {
      sifting = subst P (sym c.new-others.ensures.items) (sifting_none c.args.all.now (λ v. v ≡ c.args.at.now));
      others = subst O (sym c.new-others.ensures.items) (All-nil (λ v. v ≡ c.args.at.now → ⊥));
    }

pub loop-node-preserved : goal.loop-node-preserved
loop-node-preserved c =
    let all = c.args.all.now in
    let i = c.loop-node.node-index in
    let Dropped : NodeId → Type 0 = λ v. v ≡ c.args.at.now in
    let Other : NodeId → Type 0 = λ v. v ≡ c.args.at.now → ⊥ in
    let P : List NodeId → Type 0 = λ vs. IsSifting all Dropped vs (take (i + 1) all) (i + 1) in
    let O : List NodeId → Type 0 = λ vs. AreOthers c.args.at.now vs in
    elim c.if-ne.branch [
      | then-ne+in_ok-push w ↦ (
          let is : c.if-ne.others.items ≡ c.loop-node.others.items ++ get_or all i no_node ∷ [] = ap (λ f. f.items) w.others-is ∙ w.in_ok-push.ensures.items in
          record {
            sifting = sifting_keeps all Dropped c.loop-node.others.items i no_node c.loop-node-test.true c.loop-node.invariant.sifting c.if-ne.others.items is;
            others = subst O (sym is) (All-push Other c.loop-node.others.items (get_or all i no_node) c.loop-node.invariant.others (node_off c.args.at.now (get_or all i no_node) (sym c.ne.ensures ∙ w.if-ne.true)));
          })
      | else-ne w ↦ record {
        sifting = subst P (sym (ap (λ f. f.items) w.others-is)) (sifting_drops all Dropped c.loop-node.others.items i no_node c.loop-node-test.true c.loop-node.invariant.sifting (node_not_off c.args.at.now (get_or all i no_node) (sym c.ne.ensures ∙ w.if-ne.false)));
        others = subst O (sym (ap (λ f. f.items) w.others-is)) c.loop-node.invariant.others;
      }
    ]

pub returns-clause-each : goal.returns-clause-each
returns-clause-each c = c.loop-node.invariant.sifting.each

pub returns-clause-others : goal.returns-clause-others
returns-clause-others c = c.loop-node.invariant.others

pub returns-clause-all : goal.returns-clause-all
returns-clause-all c =
    but_this c.args.at.now c.loop-node.others.items c.args.all.now
    (all_seen (λ v. Contains c.loop-node.others.items v ⊎ (v ≡ c.args.at.now)) c.args.all.now c.loop-node.node-index (omega arith) c.loop-node.invariant.sifting.all)

pub returns-clause-no_more : goal.returns-clause-no_more
returns-clause-no_more c = omega (arith, c.loop-node.invariant.sifting.few)
