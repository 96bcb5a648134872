use Rattle.std.proofs.Common.{◌+◌, take, arith, sym, ◌∙◌, subst}
use Rattle.std.specs.BTreeSet.{BTreeSet}
use Rattle.scp_quorum_search.specs.scp_types.specs.declared.names.NodeId.{NodeId}
use Rattle.scp_quorum_search.specs.scp_quorum.specs.NodeSet.{is_in}
use Rattle.scp_quorum_files.proofs.Lines.{IsOthers, others_none, others_adds, others_skips, others_are, empty_has_none}
use Rattle.scp_quorum_files.proofs.report.others.Goals as goal
use Rattle.scp_quorum_files.proofs.report.others.Goals.{then-not-is_member+in_ok-insert, else-not-is_member}

pub loop-node-init : goal.loop-node-init
loop-node-init c = others_none c.args.members.now (is_in c.new-nodes.result) (empty_has_none c.new-nodes.result c.new-nodes.ensures.empty)

pub loop-node-preserved : goal.loop-node-preserved
loop-node-preserved c =
    let all = c.args.all.now in
    let members = c.args.members.now in
    let i = c.loop-node.node-index in
    let x = c.node-item.result in
    let P : BTreeSet NodeId → Type 0 = λ s. IsOthers members (is_in s) (take (i + 1) all) in
    elim c.if-not-is_member.branch [
      | then-not-is_member+in_ok-insert w ↦
          subst P (sym w.nodes-is) (others_adds members all (is_in c.loop-node.nodes) i x c.loop-node-test.true c.node-item.is c.loop-node.invariant (is_in w.insert.new.self) w.in_ok-insert.ensures.updates.0 (sym c.is_member.ensures ∙ w.if-not-is_member.true))
      | else-not-is_member w ↦
          subst P (sym w.nodes-is) (others_skips members all (is_in c.loop-node.nodes) i x c.loop-node-test.true c.node-item.is c.loop-node.invariant (sym c.is_member.ensures ∙ w.if-not-is_member.false))
    ]

pub returns : goal.returns
returns c = others_are c.args.members.now c.args.all.now (is_in c.loop-node.nodes) c.loop-node.node-index (omega arith) c.loop-node.invariant
