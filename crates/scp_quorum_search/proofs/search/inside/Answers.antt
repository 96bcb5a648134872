use Rattle.std.proofs.Common.{◌≡◌, true, refl, arith, ◌∙◌, ap}
use Rattle.std.proofs.lemmas.List.Elements.{All-nil}
use Rattle.scp_quorum.specs.NodeSet.{is_in}
use Rattle.scp_quorum_search.proofs.Sets.{no_node, added_kept, all_added, all_seen}
use Rattle.scp_quorum_search.proofs.search.inside.Goals as goal

pub loop-node-init : goal.loop-node-init
loop-node-init c = record {
  chosen = λ v has. ap (λ s. is_in s v) c.in_ok-nodes.ensures ∙ has;
  left = All-nil (λ v. is_in c.in_ok-nodes.nodes v ≡ true);
}

pub loop-node-preserved : goal.loop-node-preserved
loop-node-preserved c = record {
  chosen = λ v has. added_kept _ (is_in c.loop-node.nodes) (is_in c.insert.new.self) c.in_ok-insert.ensures.updates.0 v (c.loop-node.invariant.chosen v has);
  left = all_added _ (is_in c.loop-node.nodes) (is_in c.insert.new.self) c.in_ok-insert.ensures.updates.0 c.args.left.now c.loop-node.node-index no_node c.loop-node-test.true refl c.loop-node.invariant.left;
}

pub returns-clause-left : goal.returns-clause-left
returns-clause-left c = all_seen (λ v. is_in c.loop-node.nodes v ≡ true) c.args.left.now c.loop-node.node-index (omega arith) c.loop-node.invariant.left
