use Rattle.std.proofs.Common.{◌≡◌, true, false, get_or, refl, arith}
use Rattle.std.proofs.lemmas.Bool.{iff_false}
use Rattle.std.proofs.lemmas.List.Elements.{All-more}
use Rattle.scp_quorum.specs.NodeSet.{is_in}
use Rattle.scp_quorum_search.specs.inside.Losses.{IsNeeded}
use Rattle.scp_quorum_search.proofs.Sets.{no_node, all_seen}
use Rattle.scp_quorum_search.proofs.Losing.{smallest_by, not_smallest}
use Rattle.scp_quorum_search.proofs.going.is_smallest.Goals as goal

pub loop-node-preserved : goal.loop-node-preserved
loop-node-preserved c =
    All-more (IsNeeded c.args.quest.now c.args.at.now (is_in c.args.lost.now)) c.args.quest.now.all.now c.loop-node.node-index no_node c.loop-node-test.true c.loop-node.invariant (c.in_ok-is_needed.ensures.0 c.if-not-branch.false)

pub returns-then-not-branch : goal.returns-then-not-branch
returns-then-not-branch c = (
  λ e. absurd (let f : false ≡ true = e in cc),
  λ smallest. absurd (not_smallest c.args.quest.now c.args.at.now (is_in c.args.lost.now) (get_or c.args.quest.now.all.now c.loop-node.node-index no_node) (iff_false c.in_ok-is_needed.ensures c.if-not-branch.true) smallest),
)

pub returns : goal.returns
returns c = (
  λ e. smallest_by c.args.quest.now c.args.at.now (is_in c.args.lost.now) c.requires
      (all_seen (IsNeeded c.args.quest.now c.args.at.now (is_in c.args.lost.now)) c.args.quest.now.all.now c.loop-node.node-index (omega arith) c.loop-node.invariant),
  λ smallest. refl,
)
