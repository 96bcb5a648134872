use Rattle.std.proofs.Common.{◌≡◌, ◌+◌, ◌++◌, ◌∷◌, [], ◌∙◌, List, ap, sym}
use Rattle.scp_turn.specs.scp_quorum.specs.QuorumTree.{QuorumTree}
use Rattle.scp_report.specs.scp_script.specs.Nodes.{set_at}
use Rattle.scp_line.proofs.Sets.{sets_more}
use Rattle.scp_line.proofs.left.sets_of.Goals as goal

pub loop-index-preserved : goal.loop-index-preserved
loop-index-preserved c =
    let commands = c.args.commands.now in
    let number = c.loop-index.index + 1 in
    c.in_ok-push.ensures.items
    ∙ ap (λ (set : QuorumTree). c.loop-index.sets.items ++ set ∷ []) c.in_ok-set_of_node.ensures.set
    ∙ ap (λ (l : List QuorumTree). l ++ set_at number commands ∷ []) c.loop-index.invariant
    ∙ sym (sets_more commands c.loop-index.index)
