use Rattle.std.proofs.Common.{◌≡◌, ◌+◌, true, false, take, arith, sym, ◌∙◌, subst}
use Rattle.std.specs.BTreeSet.{BTreeSet}
use Rattle.scp_quorum.specs.scp_types.specs.declared.names.NodeId.{NodeId}
use Rattle.scp_quorum.specs.NodeSet.{is_in}
use Rattle.scp_quorum_search.proofs.Sets.{no_node, empty_has_none, IsOutside, outside_none, outside_adds, outside_skips, all_seen}
use Rattle.scp_quorum_search.proofs.search.outside.Goals as goal
use Rattle.scp_quorum_search.proofs.search.outside.Goals.{then-not-contains+in_ok-insert, else-not-contains}

pub loop-node-init : goal.loop-node-init
loop-node-init c = outside_none c.args.all.now (is_in c.args.chosen.now) (is_in c.new-nodes.result) (empty_has_none c.new-nodes.result c.new-nodes.ensures.empty)

pub loop-node-preserved : goal.loop-node-preserved
loop-node-preserved c =
    let all = c.args.all.now in
    let chosen = is_in c.args.chosen.now in
    let i = c.loop-node.node-index in
    let P : BTreeSet NodeId → Type 0 = λ s. IsOutside all chosen (is_in s) (take (i + 1) all) in
    elim c.if-not-contains.branch [
      | then-not-contains+in_ok-insert w ↦
          subst P (sym w.nodes-is) (outside_adds all chosen (is_in c.loop-node.nodes) i no_node c.loop-node-test.true c.loop-node.invariant (is_in w.insert.new.self) w.in_ok-insert.ensures.updates.0 (sym c.contains.ensures ∙ w.if-not-contains.true))
      | else-not-contains w ↦
          subst P (sym w.nodes-is) (outside_skips all chosen (is_in c.loop-node.nodes) i no_node c.loop-node-test.true c.loop-node.invariant (sym c.contains.ensures ∙ w.if-not-contains.false))
    ]

pub returns-clause-listed : goal.returns-clause-listed
returns-clause-listed c = c.loop-node.invariant.listed

pub returns-clause-apart : goal.returns-clause-apart
returns-clause-apart c = c.loop-node.invariant.apart

pub returns-clause-rest : goal.returns-clause-rest
returns-clause-rest c = all_seen (λ v. is_in c.args.chosen.now v ≡ false → is_in c.loop-node.nodes v ≡ true) c.args.all.now c.loop-node.node-index (omega arith) c.loop-node.invariant.rest
