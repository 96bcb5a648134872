use Rattle.std.proofs.Common.{◌≡◌, ◌<◌, ◌+◌, ◌∷◌, ◌++◌, [], ℕ, List, length, get_or, ap, sym, subst, arith}
use Rattle.std.proofs.lemmas.List.{length-append}
use Rattle.scp_turn.specs.scp_core.specs.Kv.{NodeView}
use Rattle.scp_line.specs.Play.{IsNew}
use Rattle.scp_line.proofs.Making.{one_node_more}
use Rattle.scp_line.proofs.nodes.new_nodes.Goals as goal

pub loop-index-preserved : goal.loop-index-preserved
loop-index-preserved c =
    let old = c.loop-index.nodes.items in
    let node = c.in_ok-node.node in
    let items : c.push.new.self.items ≡ old ++ node ∷ [] = c.in_ok-push.ensures.items in
    let at : IsNew c.args.commands.now (length old + 1) node = subst (λ (n : ℕ). IsNew c.args.commands.now (n + 1) node) (sym c.loop-index.invariant.count) c.in_ok-node.ensures.node in
    record {
      count = omega (arith, ap length items, length-append old (node ∷ []), c.loop-index.invariant.count);
      each = subst (λ (l : List NodeView). (i : ℕ) → (d : NodeView) → i < length l → IsNew c.args.commands.now (i + 1) (get_or l i d)) (sym items) (one_node_more c.args.commands.now old node c.loop-index.invariant.each at);
    }
